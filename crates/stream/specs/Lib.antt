pub mod Stream
pub mod Pieces
pub mod Groups
pub mod Bodies
