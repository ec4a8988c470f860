-- Five slices, one by one.
use Rattle.std.proofs.Common.{◌≡◌, ℕ, ◌+◌, List, [], ◌∷◌, ◌++◌, length, take, drop, slice_index_or, sym, ap, ◌∙◌, arith}
use Rattle.std.specs.Borrow.{Bor}
use Rattle.std.proofs.lemmas.List.{length-append, append-nil}
use Rattle.rad_md5.specs.Blocks.{filled}
use Rattle.rad_md5.specs.Pieces.{message, pieces_of}

-- what slice k holds
abbrev pub piece : List (Bor (List ℕ)) → ℕ → List ℕ
piece slices k = (slice_index_or slices k (record { ref_ptr = (0, 0); now = [] })).now

pub message_of_five : (slices : List (Bor (List ℕ))) → length slices ≡ 5
    → message (pieces_of slices) ≡ piece slices 0 ++ (piece slices 1 ++ (piece slices 2 ++ (piece slices 3 ++ piece slices 4)))
message_of_five (a ∷ b ∷ c ∷ d ∷ e ∷ []) n = ap (λ last. a.now ++ (b.now ++ (c.now ++ (d.now ++ last)))) (append-nil e.now)
message_of_five [] n = absurd (omega arith)
message_of_five (a ∷ []) n = absurd (omega arith)
message_of_five (a ∷ b ∷ []) n = absurd (omega arith)
message_of_five (a ∷ b ∷ c ∷ []) n = absurd (omega arith)
message_of_five (a ∷ b ∷ c ∷ d ∷ []) n = absurd (omega arith)
message_of_five (a ∷ b ∷ c ∷ d ∷ e ∷ f ∷ others) n = absurd (omega arith)

pub length_of_five : (slices : List (Bor (List ℕ))) → length slices ≡ 5
    → length (message (pieces_of slices))
    ≡ length (piece slices 0) + length (piece slices 1) + length (piece slices 2) + length (piece slices 3)
    + length (piece slices 4)
length_of_five slices n =
    ap length (message_of_five slices n) ∙ rw (length-append, length-append, length-append, length-append) (omega arith)

-- what a slice's octets did to a block: they were skipped or put as far as there was room
abbrev Put : List ℕ → List ℕ → ℕ → ℕ → List ℕ → ℕ → ℕ → Type 0
Put octets old at skip new to left = (rest : List ℕ) → filled old at skip (octets ++ rest) ≡ filled new to left rest

-- five slices put one after the other
pub five_put : (slices : List (Bor (List ℕ))) (pieces : List (List ℕ)) (from : ℕ) (b0 b1 b2 b3 b4 b5 : List ℕ)
    (a1 s1 a2 s2 a3 s3 a4 s4 a5 s5 : ℕ)
    → length slices ≡ 5 → pieces_of slices ≡ pieces
    → Put (piece slices 0) b0 0 from b1 a1 s1 → Put (piece slices 1) b1 a1 s1 b2 a2 s2 → Put (piece slices 2) b2 a2 s2 b3 a3 s3
    → Put (piece slices 3) b3 a3 s3 b4 a4 s4 → Put (piece slices 4) b4 a4 s4 b5 a5 s5
    → take 64 (drop from (message pieces)) ≡ filled b5 a5 s5 []
five_put slices pieces from b0 b1 b2 b3 b4 b5 a1 s1 a2 s2 a3 s3 a4 s4 a5 s5 five view put1 put2 put3 put4 put5 =
    let b = piece slices 1 in
    let d = piece slices 2 in
    let e = piece slices 3 in
    let f = piece slices 4 in
    let whole : message pieces ≡ piece slices 0 ++ (b ++ (d ++ (e ++ (f ++ [])))) =
    sym (ap message view) ∙ message_of_five slices five
    ∙ ap (λ last. piece slices 0 ++ (b ++ (d ++ (e ++ last)))) (sym (append-nil f)) in
    ap (λ m. take 64 (drop from m)) whole
    ∙ put1 (b ++ (d ++ (e ++ (f ++ [])))) ∙ put2 (d ++ (e ++ (f ++ []))) ∙ put3 (e ++ (f ++ [])) ∙ put4 (f ++ []) ∙ put5 []
