pub mod InHand
pub mod Items
pub mod Laws
pub mod Syncing
pub mod Turns
pub mod Writing
