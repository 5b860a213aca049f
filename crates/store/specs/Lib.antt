pub mod Layout
pub mod Positions
pub mod Decode
pub mod Fitting
pub mod Entries
