pub mod Hexes
pub mod Grouping
pub mod Printed
