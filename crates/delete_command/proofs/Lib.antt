pub mod Deleted
