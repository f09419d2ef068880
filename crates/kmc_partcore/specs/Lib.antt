pub mod CoreState
pub mod History
pub mod Laws
pub mod Legal
pub mod Limits
pub mod RefusalNumbers
pub mod State
