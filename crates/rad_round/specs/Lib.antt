pub mod Rounds
pub mod Faults
pub mod Services
pub mod Works
