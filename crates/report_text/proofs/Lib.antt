pub mod FieldLemmas
pub mod RowLemmas
pub mod RowReading
pub mod ReportParts
pub mod PassLemmas
pub mod TextLemmas
pub mod LineLemmas
pub mod SizeLemmas
mod RoomLemmas
