mod LawLemmas
mod PlaceLemmas
mod RowLemmas
mod SameLemmas
