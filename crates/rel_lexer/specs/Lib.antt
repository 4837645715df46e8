pub mod Bytes
pub mod Signs
pub mod OperatorWords
pub mod Pieces
pub mod Tokens
pub mod Runs
pub mod Reads
