pub mod Run
pub mod Serial
pub mod Events
pub mod Law
pub mod Ran
