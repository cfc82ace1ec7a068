pub mod Leads
pub mod Options
pub mod Counts
pub mod Same
pub mod Totals
pub mod Places
pub mod Sorted
