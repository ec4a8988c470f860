pub mod Dictionary
pub mod Ipv6
pub mod Meant
pub mod Parts
pub mod Seen
pub mod Values
