pub mod Form
pub mod Settings40
pub mod Settings41
pub mod Job
pub mod Lent
pub mod Steps
pub mod Promises
