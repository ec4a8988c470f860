-- The octets at the front of a buffer.
use Rattle.std.proofs.Common.{◌≡◌, ℕ, ◌+◌, ◌-◌, ◌≤◌, List, ◌++◌, length, take, drop, ap, sym, ◌∙◌, arith}
use Rattle.std.proofs.lemmas.List.{take_at, take-append-drop, take-take, drop-drop, drop-take, append_assoc, length-append}
use Rattle.std.proofs.lemmas.List.{length-take-le, length-drop}
use borrow.Rule.Slice.PartMut.{put_mid}

-- a part of a list, written anew
pub part_written : (at end : ℕ) (buffer part : List ℕ) → end ≡ at + length part
    → put_mid at (end - at) buffer part ≡ take at buffer ++ part ++ drop (at + length part) buffer
part_written at end buffer part e =
    let k : end - at ≡ length part = omega (arith, e) in
    ap (λ (l : List ℕ). take at buffer ++ (part ++ l)) (drop-drop (end - at) at buffer ∙ ap (λ n. drop (at + n) buffer) k)
    ∙ sym (append_assoc (take at buffer) part (drop (at + length part) buffer))

-- a list whose front is written anew within
pub front_written : (at len : ℕ) (buffer part : List ℕ) → at + length part ≤ len → len ≤ length buffer
    → take len (take at buffer ++ part ++ drop (at + length part) buffer)
    ≡ take at (take len buffer) ++ part ++ drop (at + length part) (take len buffer)
front_written at len buffer part within le =
    let end : ℕ = at + length part in
    let front : List ℕ = take at buffer ++ part in
    let long : length front ≡ end = omega (arith, length-append (take at buffer) part, length-take-le at buffer) in
    let sum : end + (len - end) ≡ len = omega arith in
    let rest : List ℕ = take (len - end) (drop end buffer) in
    let parted : drop end buffer ≡ rest ++ drop (len - end) (drop end buffer) =
    sym (take-append-drop (len - end) (drop end buffer)) in
    let whole : front ++ drop end buffer ≡ (front ++ rest) ++ drop (len - end) (drop end buffer) =
    ap (λ (l : List ℕ). front ++ l) parted ∙ sym (append_assoc front rest (drop (len - end) (drop end buffer))) in
    ap (take len) whole
    ∙ take_at (front ++ rest) (drop (len - end) (drop end buffer)) len
    (omega (arith, length-append front rest, length-take-le (len - end) (drop end buffer), length-drop end buffer))
    ∙ ap (λ (l : List ℕ). l ++ part ++ rest) (sym (take-take at len buffer (omega arith)))
    ∙ ap (λ (l : List ℕ). take at (take len buffer) ++ part ++ l)
    (sym (drop-take end (len - end) buffer) ∙ ap (λ n. drop end (take n buffer)) sum)
