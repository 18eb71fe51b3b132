pub mod Numbered
pub mod NumberChecks
pub mod NumberedSeveral
pub mod RecordSteps
pub mod Carried
pub mod Promises
