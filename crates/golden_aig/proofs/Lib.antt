pub mod Values
pub mod Tables
pub mod PortLists
pub mod Texts
pub mod NoMatch
