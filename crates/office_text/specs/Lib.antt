pub mod Orders
pub mod OrderLines
pub mod Offices
pub mod Made
pub mod Known
pub mod OrderReadings
