-- What the proofs of several functions use.
pub mod SheetLaws
pub mod TableLaws
pub mod CountLaws
pub mod ChangeLaws
pub mod QuestionLaws
pub mod GoodRowsLaws
pub mod KeptLaws
