pub mod Got
pub mod Threading
pub mod Spreading
pub mod Walking
pub mod Turning
pub mod OneDriver
