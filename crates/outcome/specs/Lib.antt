pub mod Outcomes
pub mod Refusals
