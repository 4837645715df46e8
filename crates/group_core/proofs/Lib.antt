mod Sorting
mod Tabling
mod Membering
mod Booking
mod OneList
mod ComputerLemmas
mod GroupLists
pub mod AddLemmas
mod DefineLemmas
mod FittingLemmas
mod KeepLemmas
mod ChangeLemmas
mod FrontLemmas
