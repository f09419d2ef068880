-- Lemmas on the definitions beside this file: proofs cite them, here and in the crates above, and no promise needs them to be read.
pub mod Advances
pub mod Beginnings
pub mod Causes
pub mod Counted
pub mod Gave
pub mod Listed
pub mod Taken
pub mod Tallies
pub mod Trees
pub mod Written
