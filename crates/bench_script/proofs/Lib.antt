pub mod LineLaws
pub mod Fits
pub mod ReadBack
pub mod Examples
