pub mod AlarmBytes
pub mod Shown
pub mod Walked
