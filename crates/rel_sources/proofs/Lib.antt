pub mod LineParts
pub mod Wrong
pub mod Standing
pub mod Separated
pub mod Gaps
pub mod Listed
pub mod Naming
