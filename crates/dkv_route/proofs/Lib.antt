pub mod Refused
pub mod Accesses
