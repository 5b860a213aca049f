pub mod Sources
pub mod Items
pub mod Written
pub mod Packed
pub mod ValuesRead
