-- Lemmas on the definitions beside this file: proofs cite them, here and in the crates above, and no promise needs them to be read.
pub mod Gaining
pub mod Grown
pub mod KeyBytes
pub mod SumPlaces
pub mod Sums
pub mod Taken
pub mod Turned
pub mod Whole
pub mod WordsOfBin
pub mod PartRecords
