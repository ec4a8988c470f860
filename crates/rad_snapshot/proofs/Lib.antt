mod RowLemmas
mod RestoreLemmas
mod SnapshotLemmas
mod WriteLemmas
mod StoreLemmas
mod BodyLemmas
