pub mod Asking
mod Filling
mod Fitting
mod Heads
mod OneForm
mod Placing
mod Putting
mod ReadBack
mod Sizes
mod Tagging
