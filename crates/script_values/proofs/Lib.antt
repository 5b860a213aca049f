pub mod RunLaws
pub mod NumberLaws
pub mod HexLaws
