pub mod Held
pub mod LiveTable
pub mod AlarmPart
