pub mod Refusing
pub mod ReadAgain
pub mod Meaning
pub mod ActionTexts
pub mod ActionsiteBytes
pub mod Gathering
pub mod MadeSite
