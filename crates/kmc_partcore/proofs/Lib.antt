mod Advancing
mod Answered
mod Beginnings
mod Calls
mod Histories
mod Room
