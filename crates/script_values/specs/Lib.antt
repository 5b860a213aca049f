pub mod Texts
pub mod Reasons
pub mod Runs
pub mod Numbers
pub mod HexBytes
