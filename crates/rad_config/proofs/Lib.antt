pub mod EntryLemmas
pub mod GroupLemmas
pub mod NameLemmas
pub mod PoolLemmas
pub mod UserLemmas
