pub mod At
pub mod Registers
pub mod Going
pub mod Steps
pub mod Asking
pub mod Taking
pub mod Rows
