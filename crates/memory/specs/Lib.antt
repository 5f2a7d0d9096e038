pub mod Overlay
pub mod Entries
pub mod Post
