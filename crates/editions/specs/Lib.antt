pub mod Moving
pub mod Steps
pub mod ThereAndBack
pub mod Promises
