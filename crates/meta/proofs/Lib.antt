-- What the proofs of several functions use, and what is shown of combining as a whole.
mod JoinLaws
mod FaultLaws
mod OrLaws
mod EntryLaws
mod GroupingLaws
mod TidyLaws
mod ListLaws
mod WordListLaws
pub mod AnyGrouping
