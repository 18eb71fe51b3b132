-- What the proofs of several functions use.
pub mod BooleanLaws
pub mod OrderLaws
pub mod SumLaws
pub mod SearchLaws
pub mod ChainLaws
pub mod BestLaws
pub mod Demand
pub mod CountLaws
pub mod TableLaws
pub mod HeapLaws
pub mod PickLaws
pub mod QueueLaws
pub mod RunLaws
pub mod RuleLaws
