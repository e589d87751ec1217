pub mod Links
pub mod Paces
pub mod Inputs
pub mod MemoryLinks
pub mod Roles
