pub mod Pieces
pub mod Gathering
