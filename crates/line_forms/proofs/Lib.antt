pub mod Texts
pub mod Cutting
pub mod Pieces
pub mod LineLemmas
pub mod PathLemmas
mod DigestLemmas
pub mod VersionLemmas
pub mod BadLines
pub mod Passing
pub mod PlainLemmas
pub mod Sorted
pub mod FieldReading
pub mod Lasts
pub mod LineBytes
pub mod Parts
pub mod Sequences
pub mod Rising
