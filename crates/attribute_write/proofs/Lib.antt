pub mod Turns
pub mod Puts
pub mod FirstTurns
pub mod Overwritten
pub mod Firsts
pub mod TableWritten
