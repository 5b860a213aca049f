pub mod Slots
pub mod AlarmBytes
