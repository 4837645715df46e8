pub mod Giving
pub mod RowPromises
pub mod Running
pub mod Taking
