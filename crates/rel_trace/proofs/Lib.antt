pub mod SoundRows
pub mod Rows
pub mod Follows
pub mod Measures
pub mod Folds
pub mod Hands
pub mod Tuples
