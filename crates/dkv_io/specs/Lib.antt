pub mod Causes
pub mod Streams
pub mod Disks
pub mod Past
pub mod Clocks
pub mod Memories
pub mod Plans
