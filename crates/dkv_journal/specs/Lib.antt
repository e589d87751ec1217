pub mod Crashes
pub mod Laws
pub mod Records
pub mod Scanning
