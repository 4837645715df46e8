mod CacheLemmas
mod RequestLemmas
