pub mod Tables
pub mod Members
pub mod Books
pub mod Lists
pub mod Keeping
pub mod Fronts
