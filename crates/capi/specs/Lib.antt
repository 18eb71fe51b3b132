pub mod Words
pub mod Held
pub mod Made
pub mod Moved
pub mod Promises
