mod Relations
mod VersionsRead
pub mod KindLaws
mod Digits
mod Integers
mod Trims
mod Joined
mod Shown
mod Written
mod Spelled
mod Calendars
pub mod TimeReads
mod OneMoment
pub mod Tuples
