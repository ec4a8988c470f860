pub mod Columns
pub mod Lines
pub mod Names
pub mod Seen
pub mod Taken
