pub mod Lists
pub mod Doors
pub mod Links
pub mod Memory
