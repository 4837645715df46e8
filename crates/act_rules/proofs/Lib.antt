pub mod SeriesLemmas
pub mod RowLemmas
pub mod OwedLemmas
pub mod Counting
pub mod Ends
pub mod LawLemmas
pub mod WindowLemmas
