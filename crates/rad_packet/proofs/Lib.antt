pub mod AttributeLemmas
pub mod FrameLemmas
pub mod PacketLemmas
