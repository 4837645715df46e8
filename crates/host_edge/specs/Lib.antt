pub mod Ordered
pub mod Commands
