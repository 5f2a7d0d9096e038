pub mod Running
pub mod Shapes
pub mod Keeping
pub mod Reasons
