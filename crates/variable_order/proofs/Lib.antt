pub mod Tournament
