mod Apart
mod BinsDump
mod Counting
mod Cutting
mod ShareDumps
mod SharedBodies
mod Shares
mod Summed
