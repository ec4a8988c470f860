pub mod Faults
pub mod Kept
pub mod Journals
pub mod Leads
pub mod Records
pub mod Restores
pub mod Rows
pub mod Stores
