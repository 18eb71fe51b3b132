pub mod Desk
pub mod Rows
pub mod Memory
pub mod Promises
