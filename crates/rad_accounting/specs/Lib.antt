pub mod Records
pub mod Types
