pub mod Aig
pub mod Golden
pub mod Table
pub mod FirstPlaces
pub mod Matched
pub mod Differ
