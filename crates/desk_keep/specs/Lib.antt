pub mod Keys
pub mod Forms
pub mod Tables
pub mod Views
pub mod Calls
pub mod Memory
pub mod Inside
