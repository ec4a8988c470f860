-- Messages in pieces. An octet is a number below 256, a message is a list of octets, and its pieces are lists of octets.
use Rattle.std.specs.Prelude.{◌≡◌, ℕ, ◌^◌, List, [], map, slice_index_or}
use Rattle.std.specs.Borrow.{Bor}
use Rattle.std.specs.List.{concat}
use Rattle.md5.specs.Md5.{md5}

-- what slices hold
abbrev pub pieces_of : List (Bor (List ℕ)) → List (List ℕ)
pieces_of slices = map (λ slice. slice.now) slices

-- the message: its pieces one after the other
abbrev pub message : List (List ℕ) → List ℕ
message pieces = concat pieces

-- a message has fewer octets than this: chosen, so that no length, in octets or in bits, overflows
abbrev pub message_limit : ℕ
message_limit = 2 ^ 32

-- the fifth piece is empty, so there is room for one more
abbrev pub HasFreePiece : List (List ℕ) → Type 0
HasFreePiece pieces = slice_index_or pieces 4 [] ≡ []

-- the digest of a message in pieces
abbrev pub digest : List (List ℕ) → List ℕ
digest pieces = md5 (message pieces)

-- digest i is that of message i
abbrev pub IsDigested : List (List (List ℕ)) → List (List ℕ) → ℕ → Type 0
IsDigested messages digests i = slice_index_or digests i [] ≡ digest (slice_index_or messages i [])
