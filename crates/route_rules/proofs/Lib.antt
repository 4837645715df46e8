mod Segments
mod Sound
mod Complete
mod Routed
mod Shapes
pub mod Values
mod Routing
