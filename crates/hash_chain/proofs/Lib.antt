pub mod Alike
pub mod First
pub mod Headers
pub mod Tags
