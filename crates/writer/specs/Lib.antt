pub mod Writing
pub mod Steps
pub mod Holds
pub mod RoundTrip
pub mod Promises
