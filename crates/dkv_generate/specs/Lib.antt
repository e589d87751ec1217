pub mod Frames
pub mod Keys
pub mod Numbers
pub mod Steps
pub mod Workload
