pub mod Gets
pub mod Holds
pub mod Newcomers
pub mod ReadHolds
pub mod Ready
pub mod Tries
