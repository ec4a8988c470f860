-- Octets as they are shown.
use Rattle.std.proofs.Common.{◌≡◌, ◌<◌, ◌+◌, ◌%◌, ◌/◌, ℕ, Bool, true, false, List, [], ◌∷◌, ◌++◌, length, take, get_or, arith, refl}
use Rattle.std.proofs.Common.{sym, ap, ◌∙◌, if◌then◌else◌}
use Rattle.std.specs.List.{All}
use Rattle.std.proofs.lemmas.List.{flat_map_more, take_more}
use Rattle.std.proofs.lemmas.List.Elements.{All-append, All-cons, All-nil}
use Rattle.rad_watch.specs.Shown.{IsPlain, digit, is_plain, shown, shown_octet}

-- of one octet more, what is shown is appended
pub shown_one_more : (before octets : List ℕ) (i : ℕ) (d : ℕ) → i < length octets →
    (before ++ shown (take i octets)) ++ shown_octet (get_or octets i d) ≡ before ++ shown (take (i + 1) octets)
shown_one_more before octets i d lt =
    flat_map_more shown_octet before (take i octets) (get_or octets i d)
    ∙ ap (λ l. before ++ shown l) (sym (take_more octets i d lt))

digit_is_plain : (n : ℕ) → n < 16 → IsPlain (digit n)
digit_is_plain n lt = record { least = grind (arith); most = grind (arith); unquoted = grind (arith) }

itself_is_plain : (octet : ℕ) → is_plain octet ≡ true → IsPlain octet
itself_is_plain octet plain = record { least = grind (arith, plain); most = grind (arith, plain); unquoted = grind (arith, plain) }

backslash_is_plain : IsPlain 92
backslash_is_plain = record { least = omega arith; most = omega arith; unquoted = λ same. omega (arith, same) }

one_is_plain : (octet : ℕ) (plain : Bool) → is_plain octet ≡ plain →
    All IsPlain (if plain then octet ∷ [] else 92 ∷ 120 ∷ digit (octet / 16 % 16) ∷ digit (octet % 16) ∷ [])
one_is_plain octet true plain = All-cons IsPlain octet [] (itself_is_plain octet plain) (All-nil IsPlain)
one_is_plain octet false plain =
    let high = digit (octet / 16 % 16) in
    let low = digit (octet % 16) in
    let digits = All-cons IsPlain high (low ∷ []) (digit_is_plain (octet / 16 % 16) (omega arith))
    (All-cons IsPlain low [] (digit_is_plain (octet % 16) (omega arith)) (All-nil IsPlain)) in
    All-cons IsPlain 92 (120 ∷ high ∷ low ∷ []) backslash_is_plain
    (All-cons IsPlain 120 (high ∷ low ∷ []) (itself_is_plain 120 refl) digits)

-- what is shown is printable ASCII without a quote
pub shown_is_plain : (octets : List ℕ) → All IsPlain (shown octets)
shown_is_plain [] = All-nil IsPlain
shown_is_plain (octet ∷ rest) =
    All-append IsPlain (shown_octet octet) (shown rest) (one_is_plain octet (is_plain octet) refl) (shown_is_plain rest)
