mod Cuts
mod Entries
mod TooMany
mod Numbers
mod Parts
mod ReadBack
