pub mod BatchLemmas
pub mod GatherLemmas
pub mod HandInLemmas
pub mod ListLemmas
pub mod ShareLemmas
