pub mod Ends
pub mod Endings
pub mod OneSaid
pub mod Serving
mod WordsOfServe
mod WordsOfSession
mod Questioning
mod SessionEndings
mod OneQuestioned
mod OneServed
mod RelayEndings
mod AgentEndings
mod WordsOfRelay
mod WordsOfAgent
mod FirstLetters
mod OneWorked
mod FilesOfRelay
