pub mod Masks
pub mod Turned
pub mod Bytes
pub mod MaskWalk
pub mod Digits
