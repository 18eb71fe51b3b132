pub mod Checked
pub mod Numbers
pub mod Held
pub mod CheckSteps
pub mod Several
pub mod TableOrder
pub mod SeveralChecks
pub mod Promises
