mod Asked
mod Building
mod Found
mod Joined
mod Judging
mod Searching
