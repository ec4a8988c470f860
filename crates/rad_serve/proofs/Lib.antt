pub mod AskingLemmas
pub mod CallLemmas
pub mod ServesLemmas
pub mod RepliedLemmas
pub mod LifeLemmas
