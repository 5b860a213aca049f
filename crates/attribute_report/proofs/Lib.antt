pub mod Drops
pub mod Notified
pub mod Reported
