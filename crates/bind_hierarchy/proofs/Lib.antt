pub mod Firsts
pub mod Inner
pub mod Meanings
pub mod Chains
pub mod Roots
pub mod Twice
