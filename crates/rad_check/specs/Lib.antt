pub mod Details
pub mod Intervals
pub mod Names
pub mod UsersFiles
pub mod UsersLines
pub mod Warnings
