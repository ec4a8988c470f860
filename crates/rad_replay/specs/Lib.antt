pub mod DatagramLines
pub mod DatagramTexts
pub mod ReadLines
pub mod Replays
pub mod Transcripts
