pub mod Put
pub mod Pushed
pub mod Read
pub mod Fits
pub mod Left
pub mod Told
pub mod Lines
