-- Lemmas on the definitions beside this file: proofs cite them, here and in the crates above, and no promise needs them to be read.
pub mod Judged
pub mod ListedBodies
pub mod ManyBodies
pub mod Outside
pub mod PackedDumps
pub mod PlacedLists
pub mod Whole
