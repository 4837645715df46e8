pub mod Steps
pub mod SameKinds
pub mod Tables
pub mod Lists
pub mod NodeLists
pub mod Parts
pub mod Agreements
