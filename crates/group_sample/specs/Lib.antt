pub mod Rows
pub mod Due
pub mod Samples
pub mod Drawing
