pub mod Refusals
pub mod Layout
pub mod RequestRecords
pub mod AnswerRecords
pub mod Words
