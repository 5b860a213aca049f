pub mod Lending
pub mod Sent
pub mod Counting
pub mod Repeating
pub mod Between
