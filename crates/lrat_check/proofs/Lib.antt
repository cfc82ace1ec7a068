pub mod Refutes
pub mod CheckSays
pub mod Chain
pub mod Commands
pub mod Parses
pub mod PlainWords
pub mod Utf8Words
pub mod Settled
pub mod StepLines
pub mod Accepted
mod StepLaw
mod CommandLaw
mod Reached
mod NearTables
mod BreakLaw
