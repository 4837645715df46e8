pub mod DeskLimits
pub mod AcceptedTables
pub mod Replies
pub mod CallAnswers
pub mod TableViews
pub mod ServerParts
