pub mod Tabulable
