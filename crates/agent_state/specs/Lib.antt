pub mod States
pub mod Counting
pub mod Changes
pub mod Lookups
pub mod Outboxes
