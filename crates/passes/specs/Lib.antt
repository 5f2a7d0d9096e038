pub mod Passing
pub mod Writing
pub mod Evaluating
pub mod Accepted
