pub mod Table
pub mod Form
pub mod Bench
pub mod Walking
