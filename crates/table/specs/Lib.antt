pub mod Spots
pub mod Places
pub mod Live
pub mod Counts
