pub mod Contents
pub mod Trees
