pub mod Laid
pub mod Parted
pub mod Writes
pub mod Tests
pub mod Freezing
pub mod Ranges
