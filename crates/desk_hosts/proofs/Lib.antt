mod HostLemmas
mod Keeping
mod Replying
