-- Other crates cite the laws alone; the rest proves that each step of a turn keeps the rule.
pub mod Laws
mod Sums
mod Parts
mod Shares
mod Standing
mod Tickets
mod Items
mod Moments
mod Loans
mod Splits
mod Recalls
mod Closes
mod Entered
