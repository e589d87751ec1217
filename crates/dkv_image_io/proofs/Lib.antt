pub mod Walking
pub mod Joining
pub mod Writing
pub mod Sizes
pub mod Within
pub mod Windows
pub mod Shares
pub mod Prepending
pub mod Looking
pub mod Many
pub mod Follows
pub mod EntryShares
pub mod MessageShares
pub mod Composing
mod Empty
