pub mod Readings
pub mod Errors
pub mod Lines
pub mod Printed
pub mod Tellings
pub mod Sessions
pub mod Devices
pub mod Waiting
