pub mod Traces
pub mod Scenes
pub mod Words
pub mod Rows
pub mod Steps
pub mod Draws
pub mod Members
pub mod Sources
