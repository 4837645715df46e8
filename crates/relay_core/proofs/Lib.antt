mod KeyLists
mod QueueLemmas
mod SiteLemmas
pub mod OneKeeping
