pub mod PieceLaws
pub mod TextLaws
