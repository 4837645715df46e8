pub mod Properties
pub mod Analyses
pub mod Tests
pub mod Groups
pub mod Readings
