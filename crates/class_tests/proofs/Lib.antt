pub mod ContentsTested
pub mod Unis
pub mod Entries
