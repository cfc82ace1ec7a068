mod EntrySays
pub mod GivenSays
