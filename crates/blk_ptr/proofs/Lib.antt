mod HexDigits
pub mod Keys
mod Powers
