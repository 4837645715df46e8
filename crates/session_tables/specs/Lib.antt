pub mod Paths
pub mod Worlds
pub mod Inside
