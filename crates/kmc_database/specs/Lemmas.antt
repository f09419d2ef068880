-- Lemmas on the definitions beside this file: proofs cite them, here and in the crates above, and no promise needs them to be read.
pub mod Bytes
pub mod Ranges
pub mod Words
