-- The octets of a block, from slices in their order.
use Rattle.std.proofs.Common.{◌≡◌, ℕ, suc, ◌+◌, ◌-◌, ◌*◌, ◌/◌, ◌%◌, ◌^◌, ◌≤◌, ◌<◌, List, [], ◌∷◌, ◌++◌, replicate, length, take}
use Rattle.std.proofs.Common.{drop, min, refl, sym, ap, ◌∙◌, add-one, arith, inl, inr}
use Rattle.std.proofs.lemmas.Bool.{cases_lt}
use Rattle.std.proofs.lemmas.List.{append_assoc, append-nil, length-append, length-drop, length-replicate, length-take}
use Rattle.std.proofs.lemmas.List.{length-take-le, drop_all, take_all, drop-append-le, drop-replicate, take-append-drop}
use Rattle.std.proofs.lemmas.List.{take-append-le, take-replicate, take-take}
use Rattle.std.proofs.lemmas.Slice.{take-put_mid}
use borrow.Rule.Slice.PartMut.{put_mid}
use Rattle.std.specs.Int.{w64, to_le_bytes}
use Rattle.md5.specs.Md5.{compress, digest_bytes, hash_after, initial_hash, md5, padded_message, padding}
use Rattle.md5.proofs.Absorbing.{hash_after_next}
use Rattle.rad_md5.specs.Blocks.{block_at, block_count, filled, hash_after_turns}
use Rattle.std.proofs.Math.Seq.{drop-append-add, take-append-add}

-- a slice that is skipped whole
pub skip_slice : (s rest : List ℕ) (k room : ℕ) → length s ≤ k
    → take room (drop k (s ++ rest)) ≡ take room (drop (k - length s) rest)
skip_slice s rest k room past =
    let whole : length s + (k - length s) ≡ k = omega arith in
    ap (take room) (rw whole at (drop-append-add s rest (k - length s)))

-- a slice of which the first octets are skipped, and whose others are put as far as there is room
pub put_slice : (old new s rest : List ℕ) (at skip len : ℕ) → at ≤ 64 → skip < length s
    → (length (drop skip s) ≤ 64 - at → len ≡ length (drop skip s)) → (64 - at < length (drop skip s) → len ≡ 64 - at)
    → take (at + len) new ≡ take at old ++ take len (drop skip s)
    → filled old at skip (s ++ rest) ≡ filled new (at + len) 0 rest
put_slice old new s rest at skip len room inside short long written =
    let part = drop skip s in
    let split : drop skip (s ++ rest) ≡ part ++ rest = drop-append-le skip s rest (omega arith) in
    elim (cases_lt (64 - at) (length part)) [
      | inl over ↦
          let is : len ≡ 64 - at = long over in
          let none : 64 - (at + len) ≡ 0 = omega arith in
          rw (split, take-append-le (64 - at) part rest (omega arith), none, written, is, append-nil) refl
      | inr under ↦
          let is : len ≡ length part = short under in
          let left : 64 - at ≡ length part + (64 - (at + len)) = omega arith in
          rw (split, left, take-append-add, written, is, take_all (length part) part (omega arith), append_assoc) refl
    ]

-- the length of a message with its padding
pub padded_length : (m : List ℕ) → length (padded_message m) ≡ length m + (9 + (119 - length m % 64) % 64)
padded_length m =
    length-append m _ ∙ ap (λ n. length m + suc n)
    (length-append (replicate ((119 - length m % 64) % 64) 0) (to_le_bytes w64 (length m * 8 % 2 ^ 64)))
    ∙ rw length-replicate (omega arith)

-- a message of which the slices put all that they had into a block
pub put_all : (m block : List ℕ) (from at skip : ℕ) → length block ≡ 64 → at ≤ 64
    → take 64 (drop from m) ≡ filled block at skip [] → take 64 (drop from m) ≡ take at block
put_all m block from at skip size room same =
    let nothing : List ℕ = [] in
    let none : take (64 - at) (drop skip nothing) ≡ [] =
    rw (drop_all skip nothing (omega arith)) (take_all (64 - at) nothing (omega arith)) in
    rw (none, append-nil) at same

-- how many octets they put
pub put_count : (m block : List ℕ) (from at : ℕ) → length block ≡ 64 → at ≤ 64 → take 64 (drop from m) ≡ take at block
    → at ≡ min 64 (length m - from)
put_count m block from at size room same =
    omega (arith, ap length same, length-take 64 (drop from m), length-drop from m, length-take at block, size)

-- the octets from some place on of a message with something after it
drop_both : (from : ℕ) (m end : List ℕ) → drop from (m ++ end) ≡ drop from m ++ drop (from - length m) end
drop_both from m end =
    elim (cases_lt (length m) from) [
      | inl past ↦
          let place : from ≡ length m + (from - length m) = omega arith in
          let none : drop from m ≡ [] = drop_all from m (omega arith) in
          ap (λ n. drop n (m ++ end)) place ∙ drop-append-add m end (from - length m) ∙ rw none refl
      | inr here ↦
          let none : from - length m ≡ 0 = omega arith in
          drop-append-le from m end here ∙ rw none refl
    ]

-- a block of the message alone
pub message_block : (m block : List ℕ) (n at : ℕ) → length block ≡ 64 → at ≡ 64 → take 64 (drop (n * 64) m) ≡ take at block
    → block ≡ block_at m n
message_block m block n at size end same =
    let whole : take at block ≡ block = take_all at block (omega arith) in
    let enough : 64 ≤ length (drop (n * 64) m) =
    omega (arith, ap length same, length-take 64 (drop (n * 64) m), length-take at block, size) in
    sym (ap (take 64) (drop_both (n * 64) m (padding (length m)))
    ∙ take-append-le 64 (drop (n * 64) m) (drop (n * 64 - length m) (padding (length m))) enough ∙ same ∙ whole)

-- a block with padding
pub padded_block : (m block : List ℕ) (n at : ℕ) → length block ≡ 64 → at < 64 → take 64 (drop (n * 64) m) ≡ take at block
    → filled block at (n * 64 - length m) (padding (length m)) ≡ block_at m n
padded_block m block n at size room same =
    let count = put_count m block (n * 64) at size (omega arith) same in
    let left : length (drop (n * 64) m) ≡ at = omega (arith, count, length-drop (n * 64) m) in
    let all : drop (n * 64) m ≡ take at block = sym (take_all 64 (drop (n * 64) m) (omega (arith, left))) ∙ same in
    let end = drop (n * 64 - length m) (padding (length m)) in
    let place : length (drop (n * 64) m) + (64 - at) ≡ 64 = omega (arith, left) in
    sym (ap (take 64) (drop_both (n * 64) m (padding (length m)))
    ∙ ap (λ k. take k (drop (n * 64) m ++ end)) (sym place)
    ∙ take-append-add (drop (n * 64) m) end (64 - at) ∙ ap (λ front. front ++ take (64 - at) end) all)

-- the padding's first octets
abbrev pub begin : List ℕ
begin = 0x80 ∷ replicate 64 0

begin_front : (k : ℕ) → k ≤ 64 → take (k + 1) begin ≡ 0x80 ∷ replicate k 0
begin_front k short =
    let zero : ℕ = 0 in
    let zeros : take k (replicate 64 zero) ≡ replicate k zero = take-replicate k 64 zero short in
    rw (add-one, zeros) refl

-- the padding with the length, in the block in which it begins
length_here : (bits : List ℕ) (at : ℕ) → length bits ≡ 8 → at < 56
    → take (56 - at) (take (64 - at) begin) ++ bits ≡ take (64 - at) (0x80 ∷ (replicate (55 - at) 0 ++ bits))
length_here bits at size early =
    let front : 56 - at ≡ 55 - at + 1 = omega arith in
    let begun : take (56 - at) (take (64 - at) begin) ≡ 0x80 ∷ replicate (55 - at) 0 =
    take-take (56 - at) (64 - at) begin (omega arith) ∙ rw front (begin_front (55 - at) (omega arith)) in
    let total : length (replicate (55 - at) 0 ++ bits) ≡ 55 - at + 8 =
    length-append (replicate (55 - at) 0) bits ∙ rw (length-replicate, size) refl in
    rw begun (sym (take_all (64 - at) (0x80 ∷ (replicate (55 - at) 0 ++ bits)) (omega (arith, total))))

-- the padding whose length goes into the next block
length_later : (bits : List ℕ) (at : ℕ) → 56 ≤ at → at < 64
    → take (64 - at) begin ≡ take (64 - at) (0x80 ∷ (replicate (119 - at) 0 ++ bits))
length_later bits at late room =
    let one : 64 - at ≡ 63 - at + 1 = omega arith in
    let zeros : take (63 - at) (replicate (119 - at) 0 ++ bits) ≡ replicate (63 - at) 0 =
    take-append-le (63 - at) (replicate (119 - at) 0) bits (rw length-replicate (omega arith))
    ∙ take-replicate (63 - at) (119 - at) 0 (omega arith) in
    rw one (begin_front (63 - at) (omega arith) ∙ sym (rw (add-one, zeros) refl))

drop_next : (n x : ℕ) (xs : List ℕ) → drop (n + 1) (x ∷ xs) ≡ drop n xs
drop_next n x xs = rw add-one refl

-- the rest of a padding that began in the block before
length_after : (bits : List ℕ) (q : ℕ) → length bits ≡ 8 → 0 < q
    → take 56 (take 64 (drop 1 begin)) ++ bits ≡ take 64 (drop q (0x80 ∷ (replicate (55 + q) 0 ++ bits)))
length_after bits q size over =
    let one : q ≡ q - 1 + 1 = omega arith in
    let left : 55 + q - (q - 1) ≡ 56 = omega arith in
    let zeros : drop (q - 1) (replicate (55 + q) 0 ++ bits) ≡ replicate 56 0 ++ bits =
    drop-append-le (q - 1) (replicate (55 + q) 0) bits (rw length-replicate (omega arith))
    ∙ ap (λ some. some ++ bits) (drop-replicate (q - 1) (55 + q) 0) ∙ ap (λ n. replicate n 0 ++ bits) left in
    let rest : drop q (0x80 ∷ (replicate (55 + q) 0 ++ bits)) ≡ replicate 56 0 ++ bits =
    ap (λ n. drop n (0x80 ∷ (replicate (55 + q) 0 ++ bits))) one ∙ drop_next (q - 1) 0x80 (replicate (55 + q) 0 ++ bits) ∙ zeros in
    rw rest (sym (take_all 64 (replicate 56 0 ++ bits) (omega (arith, length-append (replicate 56 0) bits, size))))

length_padding : (len : ℕ) → length (padding len) ≡ 9 + (119 - len % 64) % 64
length_padding len =
    ap suc (length-append (replicate ((119 - len % 64) % 64) 0) (to_le_bytes w64 (len * 8 % 2 ^ 64)))
    ∙ rw length-replicate (omega arith)

-- the padding's octets in a message's last block, from `at` on
pub last_padding : (len n at : ℕ) → at < 56 → (n * 64 ≤ len → n * 64 + at ≡ len) → (len < n * 64 → at ≡ 0)
    → n < (len + length (padding len)) / 64
    → take (56 - at) (take (64 - at) (drop (min (n * 64 - len) 1) begin)) ++ to_le_bytes w64 (len * 8 % 2 ^ 64)
    ≡ take (64 - at) (drop (n * 64 - len) (padding len))
last_padding len n at early begun over last =
    let bits = to_le_bytes w64 (len * 8 % 2 ^ 64) in
    elim (cases_lt len (n * 64)) [
      | inl past ↦
          let first : at ≡ 0 = over past in
          let q = n * 64 - len in
          let start : min q 1 ≡ 1 = omega arith in
          let zeros : (119 - len % 64) % 64 ≡ 55 + q = omega (arith, last, length_padding len) in
          rw (first, start, zeros) (length_after bits q refl (omega arith))
      | inr here ↦
          let place : n * 64 + at ≡ len = begun here in
          let none : n * 64 - len ≡ 0 = omega arith in
          let start : min 0 1 ≡ 0 = omega arith in
          let zeros : (119 - len % 64) % 64 ≡ 55 - at = omega arith in
          rw (none, start, zeros) (length_here bits at refl early)
    ]

-- the padding's octets in the block before a message's last, from `at` on
pub first_padding : (len n at : ℕ) → 56 ≤ at → at < 64 → (n * 64 ≤ len → n * 64 + at ≡ len) → (len < n * 64 → at ≡ 0)
    → take (64 - at) (drop (min (n * 64 - len) 1) begin) ≡ take (64 - at) (drop (n * 64 - len) (padding len))
first_padding len n at late room begun over =
    elim (cases_lt len (n * 64)) [
      | inl past ↦ absurd (omega (arith, over past))
      | inr here ↦
          let place : n * 64 + at ≡ len = begun here in
          let none : n * 64 - len ≡ 0 = omega arith in
          let start : min 0 1 ≡ 0 = omega arith in
          let zeros : (119 - len % 64) % 64 ≡ 119 - at = omega arith in
          rw (none, start, zeros) (length_later (to_le_bytes w64 (len * 8 % 2 ^ 64)) at late room)
    ]

-- a block whose rest was written
pub rest_written : (old block octets : List ℕ) (at start s : ℕ) → length block ≡ 64 → at < 64 → length octets ≡ 65 → start ≤ 1
    → s ≡ start
    → take (at + length (take (s + 64 - at - s) (drop s octets))) block ≡ take at old ++ take (s + 64 - at - s) (drop s octets)
    → block ≡ take at old ++ take (64 - at) (drop start octets)
rest_written old block octets at start s size room count few same is =
    let n : s + 64 - at - s ≡ 64 - at = omega arith in
    let long : length (take (64 - at) (drop s octets)) ≡ 64 - at =
    length-take-le (64 - at) (drop s octets) (omega (arith, length-drop s octets, count)) in
    let all : at + (64 - at) ≡ 64 = omega arith in
    let written : take 64 block ≡ take at old ++ take (64 - at) (drop s octets) = rw (n, long, all) at is in
    sym (take_all 64 block (omega arith)) ∙ written ∙ ap (λ from. take at old ++ take (64 - at) (drop from octets)) same

-- the length at the end of a block
pub length_put : (old block w ys : List ℕ) (at : ℕ) → length block ≡ 64 → length old ≡ 64 → at < 56 → block ≡ take at old ++ w
    → put_mid 56 8 block ys ≡ take at old ++ (take (56 - at) w ++ ys)
length_put old block w ys at size all early is =
    let front : length (take at old) ≡ at = length-take-le at old (omega arith) in
    let place : 56 ≡ length (take at old) + (56 - at) = omega (arith, front) in
    let nothing : drop 8 (drop 56 block) ≡ [] = drop_all 8 (drop 56 block) (omega (arith, size, length-drop 56 block)) in
    let begun : take 56 block ≡ take at old ++ take (56 - at) w =
    ap (take 56) is ∙ ap (λ n. take n (take at old ++ w)) place ∙ take-append-add (take at old) w (56 - at) in
    rw (nothing, append-nil, begun) (append_assoc (take at old) (take (56 - at) w) ys)

-- a turn of a message that has a next block
pub turn_taken : (m h : List ℕ) (n : ℕ) → n < block_count m → h ≡ hash_after_turns m n
    → compress h (block_at m n) ≡ hash_after_turns m (n + 1)
turn_taken m h n inside held =
    let before : min n (block_count m) ≡ n = omega arith in
    let after : min (n + 1) (block_count m) ≡ n + 1 = omega arith in
    rw (after, hash_after_next, held, before) refl

-- a turn of a message whose last block was taken
pub turn_left : (m h : List ℕ) (n : ℕ) → block_count m ≤ n → h ≡ hash_after_turns m n → h ≡ hash_after_turns m (n + 1)
turn_left m h n past held =
    let same : min n (block_count m) ≡ min (n + 1) (block_count m) = omega arith in
    held ∙ ap (hash_after (padded_message m)) same

-- the first turn
pub no_turn : (m : List ℕ) → initial_hash ≡ hash_after_turns m 0
unfolding hash_after
no_turn m =
    let none : min 0 (block_count m) ≡ 0 = omega arith in
    rw none refl

-- enough turns
pub all_turns : (m : List ℕ) (n : ℕ) → block_count m ≤ n → digest_bytes (hash_after_turns m n) 4 ≡ md5 m
unfolding md5
all_turns m n enough =
    let all : min n (block_count m) ≡ block_count m = omega arith in
    rw all refl

-- the first k octets of a part and its last k are written
pub ends_written : (xs part ys zs : List ℕ) (at k i j : ℕ) → at + length part ≤ length xs → k ≤ length part → length part ≤ 2 * k
    → ys ≡ take k part → zs ≡ drop (length part - k) part
    → take (at + length part) (put_mid (at + length part - k) j (put_mid at i xs ys) zs) ≡ take at xs ++ part
ends_written xs part ys zs at k i j room long short front back =
    let rest = length part - k in
    let end = at + length part - k in
    let front_size : length ys ≡ k = ap length front ∙ length-take-le k part long in
    let back_size : length zs ≡ k = ap length back ∙ length-drop rest part ∙ omega arith in
    let size : length (take at xs) ≡ at = length-take-le at xs (omega arith) in
    let first : take (at + k) (put_mid at i xs ys) ≡ take at xs ++ ys =
    take-put_mid at i xs ys (at + k) (omega (arith, front_size)) (omega arith) in
    let enough : at + k ≤ length (put_mid at i xs ys) =
    omega (arith, ap length first, length-take (at + k) (put_mid at i xs ys), length-append (take at xs) ys, size, front_size) in
    let place : end ≡ length (take at xs) + rest = omega (arith, size) in
    let begun : take end (put_mid at i xs ys) ≡ take at xs ++ take rest part =
    sym (take-take end (at + k) _ (omega arith)) ∙ ap (take end) first
    ∙ ap (λ n. take n (take at xs ++ ys)) place ∙ take-append-add (take at xs) ys rest
    ∙ ap (λ some. take at xs ++ take rest some) front
    ∙ ap (λ some. take at xs ++ some) (take-take rest k part (omega arith)) in
    take-put_mid end j _ zs (at + length part) (omega (arith, back_size)) (omega (arith, enough))
    ∙ ap (λ done. done ++ zs) begun
    ∙ append_assoc (take at xs) (take rest part) zs
    ∙ ap (λ whole. take at xs ++ whole) (ap (λ some. take rest part ++ some) back ∙ take-append-drop rest part)
