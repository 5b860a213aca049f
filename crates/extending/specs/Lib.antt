pub mod Promise
pub mod Matched
