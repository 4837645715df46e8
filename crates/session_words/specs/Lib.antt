pub mod Replaced
pub mod Depths
pub mod Inside
