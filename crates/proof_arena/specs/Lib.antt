pub mod Step
pub mod Table
pub mod Stamps
pub mod Log
pub mod Held
pub mod Laws
