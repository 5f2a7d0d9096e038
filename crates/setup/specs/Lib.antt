pub mod Heads
pub mod Post
pub mod Each
