pub mod Decimals
pub mod Lines
pub mod Splits
