pub mod KeyOrder
pub mod Putting
pub mod Following
mod Undoing
mod Counting
mod Entries
mod Keeping
mod Ranges
mod Answering
