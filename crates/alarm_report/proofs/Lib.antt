pub mod Turning
pub mod ByteTurned
pub mod Raised
