pub mod Drafts
pub mod Rows
pub mod Texts
pub mod Readings
pub mod Fronts
