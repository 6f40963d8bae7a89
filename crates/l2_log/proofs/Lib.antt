pub mod Numbers
pub mod Pointers
pub mod Headers
pub mod EntryRules
pub mod Logs
