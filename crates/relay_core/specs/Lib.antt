pub mod ReportKeys
pub mod Relays
pub mod ReportsUp
pub mod KeptSites
pub mod Indexes
pub mod Queues
