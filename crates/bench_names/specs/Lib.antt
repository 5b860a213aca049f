pub mod Naming
pub mod Told
