pub mod Showing
pub mod Uploads
