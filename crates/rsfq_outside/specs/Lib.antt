pub mod Causes
pub mod Blame
pub mod Told
pub mod Held
pub mod Exits
pub mod Answers
pub mod Reads
