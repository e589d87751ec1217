pub mod Feeds
pub mod Responses
pub mod Filled
pub mod Holds
pub mod Conns
pub mod Sessions
