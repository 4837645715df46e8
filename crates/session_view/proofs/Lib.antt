pub mod Preparing
pub mod Sessions
