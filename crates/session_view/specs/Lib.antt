pub mod Readings
pub mod OneReading
pub mod Asking
