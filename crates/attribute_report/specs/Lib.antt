pub mod Spotted
