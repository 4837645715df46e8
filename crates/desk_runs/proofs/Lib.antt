pub mod GrowingRelays
pub mod GrowingRounds
mod CountingRounds
mod CountingAgents
mod CountingRuns
mod CountingRelays
mod CountingLines
mod CountingFiles
mod KeepingFiles
mod CountingAnswers
mod ShownTurns
mod CountingFaults
mod OneReplies
mod OneExchanges
mod OneFiles
mod OneParts
mod OneRelays
mod OneRelayRuns
mod OneTurns
mod OneRounds
mod Wanting
mod Turning
mod TurningRounds
