pub mod Laws
pub mod Ids
pub mod Looks
pub mod Changes
mod Counts
mod Keeps
mod Firsts
mod Failures
