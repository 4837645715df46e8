pub mod TalkLines
pub mod ServeSteps
pub mod ServeRuns
pub mod ServeCounts
pub mod OneServing
