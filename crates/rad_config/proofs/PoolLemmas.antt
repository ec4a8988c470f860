-- Pools that share an address.
use Rattle.std.proofs.Common.{◌≡◌, ℕ, zero, suc, ◌≤◌, max, Bool, true, false, List, [], ◌∷◌, Option, Some, refl, ap, sym, subst}
use Rattle.std.proofs.Common.{◌∙◌, arith}
use Rattle.std.specs.Prelude.{slice_get, unwrap_or}
use Rattle.std.specs.List.{list_any}
use Rattle.std.proofs.lemmas.Bool.{or_parts, or_right, true≢false}
use Rattle.std.proofs.lemmas.Bool.Decides.{nat_tests}
use Rattle.rad_config.specs.Configurations.{share, overlap}
use Rattle.rad_config.specs.Ranges.{HasAddress, AreApart}
use Rattle.rad_config.specs.declared.pool.Pool.{Pool}

-- pools that hold an address share it
pub share-from_address : (p q : Pool) (address : ℕ) → HasAddress p address → HasAddress q address → share p q ≡ true
share-from_address p q address here there = grind (arith, nat_tests, here, there)

-- pools that share an address hold one, the greater of their first ones
pub address-from_share : (p q : Pool) → p.first ≤ p.last → q.first ≤ q.last → share p q ≡ true
    → (address : ℕ) × HasAddress p address × HasAddress q address
address-from_share p q p_is q_is shared = (
  max p.first q.first,
  (grind (arith, nat_tests, p_is, q_is, shared), grind (arith, nat_tests, p_is, q_is, shared)),
  (grind (arith, nat_tests, p_is, q_is, shared), grind (arith, nat_tests, p_is, q_is, shared)),
)

-- a pool that passes makes a list pass
list_any_place : (test : Pool → Bool) (pools : List Pool) (i : ℕ) (q : Pool) → slice_get pools i ≡ Some q → test q ≡ true
    → list_any test pools ≡ true
list_any_place test [] i q at_place passes = absurd cc
list_any_place test (pool ∷ pools) zero q at_place passes =
    grind (arith, ap (λ (o : Option Pool). list_any test (unwrap_or o pool ∷ [])) at_place, passes)
list_any_place test (pool ∷ pools) (suc i) q at_place passes =
    or_right (test pool) (list_any test pools) (list_any_place test pools i q at_place passes)

-- a pool that shares nothing with the others holds no address of one of them
alone : (pool : Pool) (pools : List Pool) (j : ℕ) (q : Pool) (address : ℕ)
    → list_any (share pool) pools ≡ false → slice_get pools j ≡ Some q → HasAddress pool address → ¬ HasAddress q address
alone pool pools j q address none at_place here there =
    true≢false (sym (list_any_place (share pool) pools j q at_place (share-from_address pool q address here there)) ∙ none)

found : {p q : Pool} → Some p ≡ Some q → p ≡ q
found {p} e = ap (λ (o : Option Pool). unwrap_or o p) e

-- where no two pools share an address, no address is in two of them
pub apart : (pools : List Pool) → overlap pools ≡ false → AreApart pools
apart [] none i j p q address first second here there = absurd cc
apart (pool ∷ pools) none zero zero p q address first second here there = refl
apart (pool ∷ pools) none zero (suc j) p q address first second here there =
    absurd (alone pool pools j q address (or_parts _ _ none).0 second
    (subst (λ (x : Pool). HasAddress x address) (sym (found first)) here) there)
apart (pool ∷ pools) none (suc i) zero p q address first second here there =
    absurd (alone pool pools i p address (or_parts _ _ none).0 first
    (subst (λ (x : Pool). HasAddress x address) (sym (found second)) there) here)
apart (pool ∷ pools) none (suc i) (suc j) p q address first second here there =
    ap suc (apart pools (or_parts _ _ none).1 i j p q address first second here there)
