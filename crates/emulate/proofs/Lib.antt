pub mod Answering
pub mod Giving
