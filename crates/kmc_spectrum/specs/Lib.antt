pub mod Messages
pub mod Program
pub mod Spectrum
pub mod Tallied
