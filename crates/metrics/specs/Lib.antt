pub mod Similarity
pub mod SeqsimError
pub mod Overlap
pub mod Letters
pub mod Lanes
pub mod Placed
pub mod Promises
pub mod Refusals
