pub mod Refused
pub mod Wrote
pub mod Answered
