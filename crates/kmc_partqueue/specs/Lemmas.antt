-- Lemmas on the definitions beside this file: proofs cite them, here and in the crates above, and no promise needs them to be read.
pub mod Both
pub mod Numbered
pub mod SameSeats
pub mod Sums
pub mod Zips
