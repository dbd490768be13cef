mod Examined
mod Measured
