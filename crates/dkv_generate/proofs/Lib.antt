mod Following
mod KeySizes
pub mod Short
pub mod Whole
