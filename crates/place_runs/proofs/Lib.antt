pub mod Turns
pub mod Spare
pub mod Places
pub mod Created
