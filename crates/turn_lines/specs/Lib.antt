pub mod DoLines
pub mod TurnLines
pub mod VerdictWords
pub mod Givers
pub mod TurnsWithFiles
pub mod Fetching
