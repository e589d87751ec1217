pub mod Sums
pub mod Decisions
pub mod Overlays
pub mod Numbers
