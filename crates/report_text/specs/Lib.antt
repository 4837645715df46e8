pub mod ReportRows
pub mod RowLines
pub mod FieldTexts
pub mod Reports
pub mod Readings
pub mod Writings
