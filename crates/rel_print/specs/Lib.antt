pub mod Bare
pub mod Pages
pub mod Written
