pub mod Book
pub mod Changes
pub mod Kept
pub mod Promises
