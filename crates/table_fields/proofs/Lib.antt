pub mod CheckFacts
pub mod FieldList
pub mod PlaceFacts
pub mod Places
pub mod RecordList
pub mod RowLists
pub mod TimeFacts
