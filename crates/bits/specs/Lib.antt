pub mod Firsts
pub mod Digits
