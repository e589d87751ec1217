pub mod Heads
pub mod Chunks
pub mod Requests
pub mod Laws
pub mod Scans
pub mod Sizes
pub mod Judged
pub mod Bodies
