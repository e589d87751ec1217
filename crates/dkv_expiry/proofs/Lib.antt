mod Order
pub mod Membership
