pub mod Judged
pub mod Readings
