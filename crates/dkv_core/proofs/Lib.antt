pub mod OneCommit
mod Committed
pub mod Going
pub mod Settles
pub mod Replying
pub mod Running
pub mod SeatRows
pub mod Seated
pub mod Watching
pub mod Indexed
mod PutInOrder
mod Seen
pub mod Rows
pub mod Added
pub mod Kept
pub mod Viewed
