mod Cuts
mod Dealt
mod Gathered
mod Held
mod Ranges
mod Spelled
