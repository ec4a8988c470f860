pub mod LineLemmas
pub mod RecordingLemmas
pub mod ReplayedLemmas
pub mod ShownLemmas
pub mod UntoldLemmas
