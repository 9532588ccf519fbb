pub mod Servers
pub mod Scripts
pub mod Worked
