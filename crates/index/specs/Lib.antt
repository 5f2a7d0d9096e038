pub mod Places
pub mod Texts
pub mod Blocks
pub mod Symbols
pub mod Regions
