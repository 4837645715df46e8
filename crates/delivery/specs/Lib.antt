pub mod Messages
pub mod Arrivals
pub mod Schedules
pub mod Holdings
