mod FieldSays
mod SpelledFields
mod SpelledLists
mod SpelledLines
