-- Networks: what their keys tell apart, and their prefixes in order.
use Rattle.std.proofs.Common.{◌≡◌, ℕ, ◌+◌, ◌*◌, ◌%◌, ◌-◌, ◌^◌, ◌<◌, ◌≤◌, ◌==◌, ◌&&◌, nat_eq, Bool, true, false, List, length}
use Rattle.std.proofs.Common.{get_or, refl, ap, sym, ◌∙◌, arith}
use Rattle.std.specs.Prelude.{IsTrue, insert, nat_lt, nat_le}
use Rattle.std.specs.List.Sorted.{IsPartitionedBy, IsPartitionPoint}
use Rattle.std.proofs.lemmas.Bool.{and_from, and_parts, eq-eqb, eqb-true, lt-ltb, ltb-false, ltb-true}
use Rattle.std.proofs.lemmas.List.Elements.{All-append, All-cons, All-drop, All-take}
use Rattle.std.proofs.lemmas.List.Sorted.{IsNonDecreasingBy-insert}
use Rattle.std.proofs.lemmas.Nat.{same_from_place, shr_le, shr_split}
use Rattle.rad_auth.specs.Clients.{Client, address_bits, holds, leading_bits, network_fits}
use Rattle.rad_auth.specs.ClientRows.{HasNetwork, IsGreatestFirst, client_key, network_key}

-- ---- prefixes, the greatest first

-- the prefixes above another one come before those that are not
pub partitioned : (prefixes : List ℕ) (prefix : ℕ) → IsGreatestFirst prefixes → IsPartitionedBy (nat_lt prefix) prefixes
partitioned prefixes prefix first = λ i j d le within above.
    let ordered = first.in_order i j d le within in
    let low = first.below j d within in
    let lower = ltb-true prefix (get_or prefixes j d) above in
    lt-ltb prefix (get_or prefixes i d) (omega (arith, ordered, low, lower))

-- a prefix after those above it
pub greatest_first-insert : (prefixes : List ℕ) (place prefix : ℕ) → IsGreatestFirst prefixes → prefix ≤ address_bits
    → place ≤ length prefixes
    → IsPartitionPoint (λ other. nat_lt prefix other ≡ true) (λ other. nat_lt prefix other ≡ false) prefixes place
    → IsGreatestFirst (insert prefixes place prefix)
greatest_first-insert prefixes place prefix first low within point = record {
  in_order = IsNonDecreasingBy-insert (λ other. address_bits - other) prefixes place prefix first.in_order within
      (λ k d before. let above = ltb-true prefix (get_or prefixes k d) (point.0 k d (omega arith) before) in omega (arith, above))
      (λ k d after more. let under = ltb-false prefix (get_or prefixes k d) (point.1 k d after more) in omega (arith, under));
  below = All-append (λ other. other ≤ address_bits) _ _ (All-take (λ other. other ≤ address_bits) place prefixes first.below)
      (All-cons (λ other. other ≤ address_bits) prefix _ low (All-drop (λ other. other ≤ address_bits) place prefixes first.below));
}

-- ---- keys

leading_bits-below : (address prefix : ℕ) → address < 2 ^ 32 → leading_bits address prefix < 2 ^ 32
leading_bits-below address prefix below = omega (arith, shr_le address (32 - prefix), below)

-- one key says one prefix and the same leading bits
same_key : (address other prefix longer : ℕ) → address < 2 ^ 32 → other < 2 ^ 32
    → network_key address prefix ≡ network_key other longer
    → (prefix ≡ longer) × (leading_bits address prefix ≡ leading_bits other longer)
same_key address other prefix longer below other_below same =
    same_from_place prefix (leading_bits address prefix) longer (leading_bits other longer) (2 ^ 32)
    (leading_bits-below address prefix below) (leading_bits-below other longer other_below) same

-- a client with the key of a source at a prefix has that prefix, and its network holds the source
pub key-holds : (client : Client) (source prefix : ℕ) → HasNetwork client → source < 2 ^ 32
    → nat_eq (network_key source prefix) (client_key client) ≡ true
    → (client.prefix ≡ prefix) × (holds client source ≡ true)
key-holds client source prefix network below found =
    let same = same_key source client.address prefix client.prefix below network.below (eqb-true _ _ found) in (
      sym same.0,
      eq-eqb (leading_bits source client.prefix) (leading_bits client.address client.prefix)
          (ap (leading_bits source) (sym same.0) ∙ same.1),
    )

-- and the other way round
pub holds-key : (client : Client) (source prefix : ℕ) → client.prefix ≡ prefix → holds client source ≡ true
    → nat_eq (network_key source prefix) (client_key client) ≡ true
holds-key client source prefix same held =
    eq-eqb (network_key source prefix) (client_key client)
    (ap (network_key source) (sym same)
    ∙ ap (λ bits. client.prefix * 2 ^ 32 + bits)
    (eqb-true (leading_bits source client.prefix) (leading_bits client.address client.prefix) held))

-- ---- networks that are the same

same_bools : (a b : Bool) → (a ≡ true → b ≡ true) → (b ≡ true → a ≡ true) → a ≡ b
same_bools true b to from = sym (to refl)
same_bools false true to from = from refl
same_bools false false to from = refl

-- an address that fits is its leading bits
from_leading : (address prefix : ℕ) → IsTrue (network_fits address prefix)
    → leading_bits address prefix * 2 ^ (32 - prefix) ≡ address
from_leading address prefix fits =
    let rest : address % 2 ^ (32 - prefix) ≡ 0 =
    eqb-true _ _ (and_parts (nat_le prefix 32) (address % 2 ^ (32 - prefix) == 0) fits).1 in
    omega (arith, shr_split address (32 - prefix), rest)

-- the key of a network is that of a client just where both have the address and the prefix
pub key-is : (client : Client) (address prefix : ℕ) → HasNetwork client → address < 2 ^ 32 → IsTrue (network_fits address prefix)
    → nat_eq (network_key address prefix) (client_key client) ≡ ((client.address == address) && (client.prefix == prefix))
key-is client address prefix network below fits = same_bools _ _
    (λ found.
    let same = same_key address client.address prefix client.prefix below network.below (eqb-true _ _ found) in
    let whole : client.address ≡ address =
    sym (from_leading client.address client.prefix network.fits) ∙ ap (λ bits. bits * 2 ^ (32 - client.prefix)) (sym same.1)
    ∙ ap (λ p. leading_bits address prefix * 2 ^ (32 - p)) (sym same.0) ∙ from_leading address prefix fits in
    and_from _ _ (eq-eqb client.address address whole) (eq-eqb client.prefix prefix (sym same.0)))
    (λ is.
    let parts = and_parts (client.address == address) (client.prefix == prefix) is in
    eq-eqb (network_key address prefix) (client_key client)
    (ap (λ a. network_key a prefix) (sym (eqb-true client.address address parts.0))
    ∙ ap (network_key client.address) (sym (eqb-true client.prefix prefix parts.1))))
