pub mod HostCalls
pub mod ServerCalls
pub mod RelayFiles
pub mod RelayCalls
