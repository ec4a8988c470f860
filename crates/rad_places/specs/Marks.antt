-- Places that are marked, as bits of words of 64.
use Rattle.std.specs.Prelude.{◌≡◌, ◌<◌, ◌*◌, ◌/◌, ◌%◌, ◌^◌, ℕ, List, length, slice_index}
use Rattle.std.specs.Int.{bit_at}

-- 1 where the place is marked, else 0
abbrev pub marked : List ℕ → ℕ → ℕ
marked words place = bit_at (slice_index words (place / 64)) (place % 64)

-- the summary marks exactly the words that aren't 0, and there are as many words as it has bits
pub record IsSummary (words summary : List ℕ) : Type 0 where
  pub enough : length words ≡ 64 * length summary
  pub fits : 64 * length words < 2 ^ 64
  pub zero : (word : ℕ) → word < length words → marked summary word ≡ 0 → slice_index words word ≡ 0
  pub some : (word : ℕ) → word < length words → marked summary word ≡ 1 → 0 < slice_index words word
