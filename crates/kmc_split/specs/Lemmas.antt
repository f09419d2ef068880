-- Lemmas on the definitions beside this file: proofs cite them, here and in the crates above, and no promise needs them to be read.
pub mod Allowed
pub mod BothStrands
pub mod Least
pub mod Lowest
pub mod Numbers
pub mod Written
