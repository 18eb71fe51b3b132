-- What the proofs of several functions use.
pub mod CheckLaws
pub mod CheckedLaws
mod CallLaws
pub mod BoundLaws
pub mod TableOrderLaws
pub mod EndLaws
pub mod SeveralLaws
pub mod AcceptedLaws
mod AnyLaws
