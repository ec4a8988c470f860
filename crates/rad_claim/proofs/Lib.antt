pub mod BackLemmas
pub mod DrawLemmas
pub mod FinishedLemmas
pub mod SeatLemmas
