pub mod Each
pub mod Number
pub mod Format
pub mod Text
