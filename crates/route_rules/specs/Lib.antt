pub mod Routes
pub mod Endpoints
pub mod Finding
