mod Beside
mod Cuts
