pub mod Spelling
pub mod Starred
