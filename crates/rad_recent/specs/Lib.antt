pub mod Challenges
pub mod Index
pub mod Lawful
pub mod Notes
pub mod Numbers
pub mod Recent
pub mod Restored
