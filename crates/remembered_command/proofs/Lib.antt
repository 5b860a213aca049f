pub mod Stored
pub mod Remembered
