pub mod AttemptFields
pub mod AttemptRows
pub mod AttemptReading
pub mod AttemptLists
pub mod IdLines
pub mod PendingIds
pub mod PendingSteps
pub mod PendingPlaces
pub mod HistoryLists
pub mod ReportLists
pub mod SavedParts
pub mod FrameLines
pub mod SavedLines
pub mod SavedStops
pub mod SavedBytes
pub mod SavedAnswers
pub mod BeforeLemmas
mod MadeLemmas
mod FillLemmas
mod HistoryLemmas
mod PlaceLemmas
mod ItemLemmas
