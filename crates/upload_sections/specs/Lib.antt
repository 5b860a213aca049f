pub mod Cuts
pub mod Sections
