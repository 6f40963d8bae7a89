pub mod Judging
pub mod LogText
pub mod Reading
pub mod DraftKeeps
pub mod Printed
pub mod ReadBack
