pub mod Looking
pub mod Verdicts
pub mod Marked
pub mod Held
pub mod ByRule
