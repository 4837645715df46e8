pub mod Falling
pub mod Soundness
pub mod Tuples
pub mod Walking
