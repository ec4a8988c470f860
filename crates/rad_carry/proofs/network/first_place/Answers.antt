use Rattle.std.proofs.Common.{◌≡◌, ℕ, ◌<◌, Bool, true, false, cond, List, Some, None, length, get_or, arith, ap, sym, ◌∙◌}
use Rattle.std.specs.Prelude.{nat_lt, position}
use Rattle.std.proofs.lemmas.Bool.{le-ltb, lt-ltb}
use Rattle.std.proofs.lemmas.List.Sums.{position_or_len_is}
use Rattle.rad_carry.specs.Places.{same_network}
use Rattle.rad_auth.specs.declared.network.Network.{Network}
use Rattle.rad_carry.proofs.network.first_place.Goals as goal

-- the first that passes is at a place
first_at : {X : Type 0} (p : X → Bool) (xs : List X) (i : ℕ) (d : X) → i < length xs → ((k : ℕ) → k < i → p (get_or xs k d) ≡ false)
    → p (get_or xs i d) ≡ true → position p xs ≡ Some i
first_at p xs i d within before here =
    ap (λ (n : ℕ). cond (nat_lt n (length xs)) (Some n) None)
    (position_or_len_is p xs i d (omega (arith, within)) before (λ inside. here))
    ∙ ap (λ b. cond b (Some i) None) (lt-ltb i (length xs) within)

-- none passes
none_at : {X : Type 0} (p : X → Bool) (xs : List X) (i : ℕ) (d : X) → length xs ≡ i → ((k : ℕ) → k < i → p (get_or xs k d) ≡ false)
    → position p xs ≡ None
none_at p xs i d all before =
    ap (λ (n : ℕ). cond (nat_lt n (length xs)) (Some n) None)
    (position_or_len_is p xs i d (omega (arith, all)) before (λ inside. absurd (omega (arith, inside, all))))
    ∙ ap (λ b. cond b (Some i) None) (le-ltb i (length xs) (omega (arith, all)))

pub returns-then-same_network : goal.returns-then-same_network
returns-then-same_network c =
    let d : Network = record { address = 0; prefix = 0 } in
    sym (first_at (same_network c.args.network.now) c.args.new.now c.loop-place.place d c.loop-place-test.true
    (λ k below. c.loop-place.invariant k d below)
    (sym c.same_network.ensures ∙ c.if-same_network.true))

pub returns : goal.returns
returns c =
    let d : Network = record { address = 0; prefix = 0 } in
    sym (none_at (same_network c.args.network.now) c.args.new.now c.loop-place.place d
    (omega (arith, c.loop-place-test.false, c.loop-place.auto.place-end))
    (λ k below. c.loop-place.invariant k d below))
