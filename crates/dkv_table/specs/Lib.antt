pub mod Walks
pub mod Rests
pub mod Places
pub mod Blocks
pub mod Runs
