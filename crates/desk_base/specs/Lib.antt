pub mod Counts
pub mod Views
pub mod Flow
pub mod Moments
pub mod Whole
pub mod CallStates
pub mod MemoryStates
pub mod Rooms
