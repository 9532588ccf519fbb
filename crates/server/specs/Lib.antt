pub mod Told
pub mod Output
