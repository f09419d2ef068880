pub mod Bins
pub mod Bodies
pub mod Deals
pub mod Growing
pub mod Holds
pub mod Laws
pub mod Lemmas
