pub mod Serving
mod Counting
mod Once
