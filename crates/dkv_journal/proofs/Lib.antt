pub mod Ends
pub mod Keeping
pub mod Prefix
pub mod Scans
pub mod Stepping
pub mod Torn
