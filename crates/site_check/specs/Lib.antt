pub mod Pieces
pub mod Findings
pub mod Judgements
pub mod Lines
