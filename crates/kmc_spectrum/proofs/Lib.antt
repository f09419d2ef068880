mod Faults
mod SeenPairs
mod Written
