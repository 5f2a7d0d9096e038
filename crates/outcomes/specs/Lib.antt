pub mod Telling
pub mod Reasons
pub mod Steps
pub mod Endings
pub mod Sorts
pub mod Placing
pub mod Units
pub mod Post
