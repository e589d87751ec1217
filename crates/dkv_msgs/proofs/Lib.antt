mod Shown
mod Back
mod BackEmbedded
pub mod BackMessages
mod Short
mod WholePayloads
mod ShortMessages
mod Joined
mod Counted
mod Enclosing
mod RangesSpelled
mod Stamped
mod Table
