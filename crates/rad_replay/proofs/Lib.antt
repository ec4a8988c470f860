pub mod DatagramTextLemmas
pub mod RunLemmas
pub mod TranscriptLemmas
