pub mod Rewritings
pub mod Phrases
pub mod Replacing
pub mod Deepness
pub mod FirstWords
