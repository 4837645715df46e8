mod SomeQuestion
mod FieldLemmas
pub mod AnalysisParts
mod AnalysisReading
mod TestLines
pub mod GroupParts
mod GroupReading
pub mod Ends
