pub mod Bodies
pub mod Laws
pub mod Lemmas
pub mod Shares
pub mod Stages
pub mod Widths
