-- What clauses say of the lock, of passes and of the rule between steps.
pub mod Weights
pub mod Histories
pub mod Views
pub mod Rule
pub mod Steps
pub mod Counted
pub mod Seats
pub mod Ends
pub mod Passes
pub mod Rests
pub mod Words
