pub mod LineLemmas
pub mod Tellings
pub mod Lasting
pub mod Running
pub mod Answering
pub mod OneRun
