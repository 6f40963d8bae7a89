pub mod Ending
pub mod Evicting
pub mod Scanning
pub mod Sparing
