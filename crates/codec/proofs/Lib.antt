mod Runs
mod Counts
mod Written
mod Heads
mod ReadBack
mod WriteBack
