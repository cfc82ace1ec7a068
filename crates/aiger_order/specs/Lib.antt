pub mod Numbers
pub mod Users
pub mod Listing
pub mod Ready
pub mod Sorted
pub mod Renaming
pub mod Ring
