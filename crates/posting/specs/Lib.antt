pub mod Turns
pub mod Taken
pub mod Words
