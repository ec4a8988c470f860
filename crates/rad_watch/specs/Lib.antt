pub mod Events
pub mod Expiry
pub mod Kinds
pub mod Limits
pub mod LogLines
pub mod Recordings
pub mod Shown
pub mod Untold
