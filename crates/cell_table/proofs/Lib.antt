pub mod PinLists
pub mod ReadFacts
pub mod RowFacts
