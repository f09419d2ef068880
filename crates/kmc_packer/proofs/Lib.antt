mod Great
mod Packed
mod Parts
mod RowParts
mod Sums
mod Written
