pub mod Offered
pub mod Below
pub mod Props
pub mod Facets
pub mod Descents
pub mod Left
