pub mod CachedFiles
pub mod FileRequests
pub mod Lending
