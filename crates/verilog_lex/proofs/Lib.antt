mod Tools
mod Close
mod Strings
mod Dispatch
mod Again
mod OneDivision
mod Sound
mod Places
mod Stepped
mod Lexed
mod Words
mod Placed
mod WrittenRead
mod Divides
mod Plain
mod Gaps
pub mod Facts
