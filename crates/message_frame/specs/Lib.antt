pub mod Drops
pub mod Commands
