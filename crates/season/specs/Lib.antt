pub mod Weights
pub mod Words
