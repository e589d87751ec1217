pub mod Appends
mod Clears
pub mod Filled
pub mod Fresh
pub mod Fronts
pub mod Heads
pub mod Plain
pub mod Renewed
pub mod Resting
pub mod Shut
pub mod Used
pub mod Written
