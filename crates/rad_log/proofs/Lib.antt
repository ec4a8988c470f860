pub mod StepLemmas
pub mod TakenLemmas
