-- What clauses of the benchmark say.
pub mod Free
