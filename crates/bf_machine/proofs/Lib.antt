pub mod Telling
pub mod Looking
pub mod Alike
pub mod Answering
mod Keeping
