pub mod ExamplesBool
pub mod ExamplesBoolCalls
pub mod ExamplesBoolNear
pub mod ExamplesDoor
