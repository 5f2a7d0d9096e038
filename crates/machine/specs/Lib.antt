pub mod Post
pub mod Statements
pub mod Spots
pub mod Walk
