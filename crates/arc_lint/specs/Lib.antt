pub mod Answers
pub mod Shown
pub mod Told
pub mod Verdict
pub mod Wanted
