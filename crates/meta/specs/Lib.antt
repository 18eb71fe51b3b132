pub mod Meta
pub mod Words
pub mod Grouping
pub mod Promises
