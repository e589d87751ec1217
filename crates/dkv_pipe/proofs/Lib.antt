mod Codes
mod Fronts
mod RepliedFrames
mod Halves
mod Reaching
pub mod Putting
mod SummaryLines
mod Runs
mod Spelled
mod Refused
mod One
pub mod Complete
mod Grants
mod Calls
mod Asked
