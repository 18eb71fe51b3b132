-- What the proofs of several functions use.
mod HeldLaws
mod MetaLaws
mod ValueLaws
