-- Attributes that are pushed one after the other.
use Rattle.std.proofs.Common.{◌≡◌, ◌≤◌, ℕ, ◌+◌, ◌-◌, List, [], ◌∷◌, ◌++◌, length, take, drop, get_or, sym, ap, ◌∙◌, arith, refl}
use Rattle.std.proofs.lemmas.Grind.{flat_map-append}
use Rattle.std.proofs.lemmas.List.{append-nil, append_assoc, take_at}
use Rattle.rad_packet.specs.Attributes.{Attribute, attribute_octets, attributes_octets}

-- the octets of one attribute
one_back : (front : List ℕ) (kind len : ℕ) → length front ≡ len → 2 ≤ len → get_or front 0 0 ≡ kind → get_or front 1 0 ≡ len
    → attribute_octets (record { kind = kind; value = take (length front - 2) (drop 2 front) }) ≡ front
one_back [] kind len long low first second = absurd (omega (arith, long, low))
one_back (x ∷ []) kind len long low first second = absurd (omega (arith, long, low))
one_back (x ∷ y ∷ v) kind len long low first second =
    let all : take (length (x ∷ y ∷ v) - 2) v ≡ v =
    ap (λ (n : ℕ). take n v) (omega arith) ∙ ap (λ (l : List ℕ). take (length v) l) (sym (append-nil v))
    ∙ take_at v [] (length v) refl in
    let size : length v + 2 ≡ y = omega (arith, long, second) in
    ap (λ (l : List ℕ). kind ∷ (length l + 2) ∷ l) all ∙ ap (λ (n : ℕ). kind ∷ n ∷ v) size ∙ ap (λ (n : ℕ). n ∷ y ∷ v) (sym first)

pub pushed : (list : List Attribute) (front back rest : List ℕ) (kind len : ℕ) → length front ≡ len → 2 ≤ len
    → get_or front 0 0 ≡ kind → get_or front 1 0 ≡ len
    → rest ≡ front ++ back → attributes_octets (list ++ record { kind = kind; value = take (length front - 2) (drop 2 front) } ∷ [])
    ++ back ≡ attributes_octets list ++ rest
pushed list front back rest kind len long low first second split =
    let a : Attribute = record { kind = kind; value = take (length front - 2) (drop 2 front) } in
    let one : attributes_octets (a ∷ []) ≡ front =
    append-nil (attribute_octets a) ∙ one_back front kind len long low first second in
    ap (λ (l : List ℕ). l ++ back)
    (flat_map-append attribute_octets list (a ∷ []) ∙ ap (λ (l : List ℕ). attributes_octets list ++ l) one)
    ∙ append_assoc (attributes_octets list) front back ∙ ap (λ (l : List ℕ). attributes_octets list ++ l) (sym split)
