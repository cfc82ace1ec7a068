pub mod BindFacts
pub mod EnvFacts
pub mod FaultFacts
pub mod PortFacts
pub mod ReadFacts
pub mod SoundFacts
pub mod TextFacts
