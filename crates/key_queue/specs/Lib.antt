pub mod Pairs
pub mod Places
pub mod Queues
pub mod Slots
