pub mod Told
pub mod OneOutcome
pub mod NeverAmbiguous
pub mod ContractOfHandle
