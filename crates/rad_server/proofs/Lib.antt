pub mod AddressLemmas
mod DecisionLemmas
pub mod FreshLemmas
mod LawfulLemmas
mod NamedLemmas
mod OccurrenceLemmas
mod PassingLemmas
mod PlanLemmas
pub mod RepeatLemmas
mod ReplyLemmas
mod RebuildLemmas
pub mod ReportLemmas
mod RestoreLemmas
pub mod RunLemmas
mod ShareLemmas
