pub mod Ready
pub mod Soaking
