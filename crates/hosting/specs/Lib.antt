pub mod Stands
pub mod Scene
pub mod Held
pub mod Ending
pub mod Runs
pub mod Routine
pub mod Walking
pub mod Setting
