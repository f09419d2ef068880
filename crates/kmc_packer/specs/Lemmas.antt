-- Lemmas on the definitions beside this file: proofs cite them, and no promise needs them to be read.
pub mod RowLengths
