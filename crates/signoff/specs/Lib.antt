pub mod Words
pub mod Text
pub mod Headline
pub mod Verdict
pub mod Answers
pub mod Run
