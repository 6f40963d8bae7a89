pub mod Board
pub mod Histories
pub mod Homes
pub mod Moments
pub mod Places
pub mod Standings
pub mod Taken
