pub mod Failures
pub mod Asking
pub mod Calls
pub mod Excesses
pub mod Lives
