pub mod Entries
pub mod RequestTexts
pub mod ActionStates
pub mod Actionsite
pub mod ToldRows
pub mod Bodies
pub mod TextParts
