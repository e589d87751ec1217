pub mod Fields
pub mod Reading
pub mod Sizes
pub mod Walks
pub mod Writing
