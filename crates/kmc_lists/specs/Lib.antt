pub mod Lemmas
pub mod Line
pub mod Listed
pub mod Lists
pub mod Ordered
