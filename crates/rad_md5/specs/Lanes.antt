-- Eight messages side by side: each word is a vector, with one lane for each message.
use Rattle.std.specs.Prelude.{◌≡◌, ℕ, ◌+◌, ◌-◌, ◌^◌, ◌<◌, ◌≤◌, List, [], ◌∷◌, length, slice_index, slice_index_or, EachIndex}
use Rattle.md5.specs.Md5.{digest_bytes, md5, rounds}
use Rattle.rad_md5.specs.declared.lanes.State.{State}
use Rattle.rad_md5.specs.Blocks.{block_at, block_count, hash_after_turns}
use Rattle.rad_md5.specs.Pieces.{message}

-- it is so in each of the eight lanes
abbrev pub EachLane : (ℕ → Type 0) → Type 0
EachLane P = (j : ℕ) → j < 8 → P j

-- each lane of a new word is a function of the same lane of x
abbrev pub IsLanewise1 : (ℕ → ℕ) → List ℕ → List ℕ → Type 0
IsLanewise1 f x new = EachLane (λ j. slice_index new j ≡ f (slice_index x j))

-- each lane of a new word is a function of the same lane of x and y
abbrev pub IsLanewise2 : (ℕ → ℕ → ℕ) → List ℕ → List ℕ → List ℕ → Type 0
IsLanewise2 f x y new = EachLane (λ j. slice_index new j ≡ f (slice_index x j) (slice_index y j))

-- each lane of a new word is a function of the same lane of x, y and z
abbrev pub IsLanewise3 : (ℕ → ℕ → ℕ → ℕ) → List ℕ → List ℕ → List ℕ → List ℕ → Type 0
IsLanewise3 f x y z new = EachLane (λ j. slice_index new j ≡ f (slice_index x j) (slice_index y j) (slice_index z j))

-- message j of some that are in pieces
abbrev pub message_at : List (List (List ℕ)) → ℕ → List ℕ
message_at messages j = message (slice_index_or messages j [])

-- the message of lane j, where `places` gives the place of each lane's message
abbrev pub lane_message : List (List (List ℕ)) → List ℕ → ℕ → List ℕ
lane_message messages places j = message_at messages (slice_index places j)

-- at most eight lanes, each with a message
abbrev pub ArePlaces : List ℕ → List (List (List ℕ)) → Type 0
ArePlaces places messages = (length places ≤ 8) × EachIndex places (λ j. slice_index places j < length messages)

-- lane j of vector k
abbrev pub lane_at : List (List ℕ) → ℕ → ℕ → ℕ
lane_at x k j = slice_index (slice_index_or x k []) j

-- the four variables of lane j
abbrev pub lane : ℕ → State → List ℕ
lane j s = slice_index s.a j ∷ slice_index s.b j ∷ slice_index s.c j ∷ slice_index s.d j ∷ []

-- the sixteen words of lane j
abbrev pub words_of : ℕ → List (List ℕ) → List ℕ
words_of j x =
    lane_at x 0 j ∷ lane_at x 1 j ∷ lane_at x 2 j ∷ lane_at x 3 j
    ∷ lane_at x 4 j ∷ lane_at x 5 j ∷ lane_at x 6 j ∷ lane_at x 7 j
    ∷ lane_at x 8 j ∷ lane_at x 9 j ∷ lane_at x 10 j ∷ lane_at x 11 j
    ∷ lane_at x 12 j ∷ lane_at x 13 j ∷ lane_at x 14 j ∷ lane_at x 15 j ∷ []

-- lane j is live: its mask has only ones
abbrev pub IsLive : List ℕ → ℕ → Type 0
IsLive live j = slice_index live j ≡ 2 ^ 32 - 1

-- lane j has ended: its mask has only zeros
abbrev pub HasEnded : List ℕ → ℕ → Type 0
HasEnded live j = slice_index live j ≡ 0

-- it is so in each lane that is live
abbrev pub EachLive : List ℕ → (ℕ → Type 0) → Type 0
EachLive live P = EachLane (λ j. IsLive live j → P j)

-- it is so in each lane that has ended
abbrev pub EachEnded : List ℕ → (ℕ → Type 0) → Type 0
EachEnded live P = EachLane (λ j. HasEnded live j → P j)

-- each lane whose message has a block n is live, and has that block
abbrev pub HaveBlocks : ℕ → List (List (List ℕ)) → List ℕ → List ℕ → List (List ℕ) → Type 0
HaveBlocks n messages places live blocks = EachIndex places (λ j. n < block_count (lane_message messages places j)
    → IsLive live j × (slice_index_or blocks j [] ≡ block_at (lane_message messages places j) n))

-- each lane whose message has no block n has ended
abbrev pub HaveEnded : ℕ → List (List (List ℕ)) → List ℕ → List ℕ → Type 0
HaveEnded n messages places live = EachIndex places (λ j. block_count (lane_message messages places j) ≤ n → HasEnded live j)

-- each lane goes on from step t by n steps
abbrev pub TakesSteps : List (List ℕ) → ℕ → ℕ → State → State → Type 0
TakesSteps words t n old new = EachLane (λ j. (h : List ℕ)
    → lane j old ≡ rounds h (words_of j words) t → lane j new ≡ rounds h (words_of j words) (t + n))

-- the messages of the lanes have at most n blocks each
abbrev pub HaveAtMost : ℕ → List (List (List ℕ)) → List ℕ → Type 0
HaveAtMost n messages places = EachIndex places (λ j. block_count (lane_message messages places j) ≤ n)

-- each lane has the hash value of its message after n turns
abbrev pub IsHashedAfter : ℕ → List (List (List ℕ)) → List ℕ → State → Type 0
IsHashedAfter n messages places state = EachIndex places (λ j. lane j state ≡ hash_after_turns (lane_message messages places j) n)

-- the octets of each lane's variables are the digest of its message
abbrev pub HasDigests : List (List (List ℕ)) → List ℕ → State → Type 0
HasDigests messages places state = EachIndex places (λ j. digest_bytes (lane j state) 4 ≡ md5 (lane_message messages places j))

-- digest i is the one that is wanted there
abbrev pub IsWanted : (ℕ → List ℕ) → List (List ℕ) → ℕ → Type 0
IsWanted wanted digests i = slice_index_or digests i [] ≡ wanted i

-- the digest made in each lane is the one that is wanted at its place
abbrev pub AreWanted : List (List ℕ) → List ℕ → (ℕ → List ℕ) → Type 0
AreWanted made places wanted = EachIndex places (λ j. slice_index_or made j [] ≡ wanted (slice_index places j))
