pub mod Bits
pub mod Exact
pub mod Shape
pub mod Checked
