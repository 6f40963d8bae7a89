pub mod Feeding
pub mod Listing
pub mod Picking
