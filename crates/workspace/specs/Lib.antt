pub mod Parts
pub mod Variables
pub mod Note
pub mod Types
pub mod Registers
pub mod View
pub mod Post
