pub mod Chained
pub mod Places
pub mod Rows
pub mod Searched
pub mod Tabled
pub mod Tables
