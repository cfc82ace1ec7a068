pub mod Named
pub mod Stages
