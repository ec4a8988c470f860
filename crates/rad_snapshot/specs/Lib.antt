pub mod Faults
pub mod Restoring
pub mod Rows
pub mod Snapshots
