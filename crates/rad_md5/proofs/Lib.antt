pub mod BlockLemmas
pub mod DigestLemmas
pub mod LaneLemmas
pub mod PieceLemmas
