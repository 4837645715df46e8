pub mod Notes
pub mod Rows
pub mod Windows
pub mod Series
pub mod Owed
pub mod Lawful
pub mod Tallies
pub mod Steps
