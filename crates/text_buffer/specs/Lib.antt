pub mod Digits
pub mod Tables
pub mod Groups
