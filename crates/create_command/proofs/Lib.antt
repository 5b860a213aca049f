pub mod Others
pub mod NewContents
pub mod NewEntry
pub mod Bad
pub mod Creates
pub mod Steps
