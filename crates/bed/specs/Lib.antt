pub mod Bed
pub mod Reading
pub mod Writing
pub mod Promises
pub mod RoundTrip
pub mod Steps
