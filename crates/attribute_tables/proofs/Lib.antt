pub mod ArmLaws
pub mod BeginLaws
pub mod Judging
pub mod ReadingLaws
