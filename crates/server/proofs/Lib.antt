pub mod Growing
pub mod Seen
pub mod Nobody
pub mod Serving
pub mod Pairing
