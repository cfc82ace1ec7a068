pub mod Bits
pub mod ClauseLaws
pub mod FormLaws
pub mod TruthLaws
