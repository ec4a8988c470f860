mod StoreLemmas
mod LastLemmas
mod ReadyLemmas
mod BeginLemmas
mod BaseLemmas
