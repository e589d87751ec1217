pub mod Keys
pub mod Lists
mod Places
pub mod Edits
mod Ranges
mod Parts
mod KeyBlocks
mod Walking
mod Answering
