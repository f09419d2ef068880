pub mod Device
pub mod Lemmas
pub mod Room
