pub mod Alike
pub mod Chain
pub mod Keeping
pub mod Kept
