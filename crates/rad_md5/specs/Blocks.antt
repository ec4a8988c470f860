-- The blocks of a message with its padding (RFC 1321, sections 3.1, 3.2 and 3.4). A block has 64 octets.
use Rattle.std.specs.Prelude.{ℕ, ◌-◌, ◌*◌, ◌/◌, min, List, ◌++◌, length, take, drop}
use Rattle.md5.specs.Md5.{padded_message, hash_after}

-- how many blocks a message has
abbrev pub block_count : List ℕ → ℕ
block_count m = length (padded_message m) / 64

-- block n of a message, counted from 0
abbrev pub block_at : List ℕ → ℕ → List ℕ
block_at m n = take 64 (drop (n * 64) (padded_message m))

-- a block's first `at` octets, and then what others have after the first `skip`, as far as there is room
abbrev pub filled : List ℕ → ℕ → ℕ → List ℕ → List ℕ
filled block at skip octets = take at block ++ take (64 - at) (drop skip octets)

-- the hash value of a message after n turns: each turn takes its next block, and after the last one it stays
abbrev pub hash_after_turns : List ℕ → ℕ → List ℕ
hash_after_turns m n = hash_after (padded_message m) (min n (block_count m))
