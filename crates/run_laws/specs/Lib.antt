pub mod Alike
pub mod Due
