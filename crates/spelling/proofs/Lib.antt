pub mod Star
pub mod Fixed
pub mod Beside
pub mod Every
pub mod BoolCases
