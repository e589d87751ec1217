pub mod KeyFrames
pub mod HubRows
pub mod Notes
pub mod Unchanged
