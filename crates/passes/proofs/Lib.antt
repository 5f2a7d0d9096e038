pub mod Simulation
pub mod Arrival
pub mod Files
pub mod Buffer
pub mod Measures
pub mod Streams
pub mod Completing
pub mod Constancy
