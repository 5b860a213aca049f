pub mod Entered
pub mod Repeated
pub mod Replied
pub mod OneOutcome
pub mod FixedOutcomes
