-- Lemmas on the definitions beside this file: proofs cite them, here and in the crates above, and no promise needs them to be read.
pub mod Apart
pub mod BodyDumps
pub mod KeysOfReads
pub mod Listing
pub mod OneDump
pub mod PackedRuns
pub mod PassedOn
pub mod Runs
pub mod Zips
