pub mod Companions
pub mod Changes
pub mod Questions
pub mod Promises
pub mod Sheets
pub mod Steps
