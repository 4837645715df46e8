pub mod Dropping
pub mod RowsAt
pub mod SiteLists
pub mod SiteActions
pub mod Pending
pub mod TallyLists
