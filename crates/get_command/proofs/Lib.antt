pub mod Refused
pub mod Answers
pub mod Contents
