pub mod Faults
pub mod Fits
pub mod Generations
pub mod InUse
pub mod Metas
pub mod Moments
pub mod Stores
