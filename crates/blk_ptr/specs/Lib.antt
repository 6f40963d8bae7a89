pub mod Hash
pub mod Key
pub mod Order
pub mod Ptr
pub mod Size
pub mod State
