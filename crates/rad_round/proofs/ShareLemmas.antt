-- What is asked under the lock.
use Rattle.std.proofs.Common.{◌≡◌, ◌≢◌, ◌⊎◌, ◌<◌, ℕ, zero, suc, ◌+◌, ◌*◌, List, [], ◌∷◌, ◌++◌, length, set, take, Option, Some}
use Rattle.std.proofs.Common.{None, IfSome, slice_get, arith, inl, inr, refl, sym, ap, subst, ◌∙◌, length-append}
use Rattle.std.proofs.Common.{Result, Ok, Err, IfOk}
use Rattle.std.specs.Result.{result_ok}
use Rattle.std.proofs.lemmas.List.{append_assoc}
use Rattle.rad_desk.specs.declared.receipt.Receipt.{Receipt}
use Rattle.rad_server.specs.declared.entry.Entry.{Entry}
use Rattle.rad_server.specs.Runs.{IsAsked}
use Rattle.rad_server.specs.Steps.{IsSealable}
use Rattle.rad_server.specs.declared.ask.Ask.{Ask}
use Rattle.rad_round.specs.Works.{AreAsked, CheckedBatch, IsAskIn, IsAskedIn, IsAskedOf, Verdict, entries_in, entry_of, somes}
use Rattle.rad_round.proofs.ListLemmas.{get_set}

-- one more lane is asked
pub asked_more : (batch : CheckedBatch) (asked : List (Option Receipt)) (lane : ℕ) (receipt : Option Receipt)
    → AreAsked batch.arrivals (batch.number * 8) batch.verdicts asked → IfSome receipt (IsAskedIn batch lane)
    → AreAsked batch.arrivals (batch.number * 8) batch.verdicts (set asked lane receipt)
asked_more batch asked lane receipt before own k verdict r at there = pick (get_set asked lane k receipt r there)
  where
    in_lane : (o : Option Receipt) → IfSome o (IsAskedIn batch lane) → (v : Verdict) → slice_get batch.verdicts lane ≡ Some v
        → IfSome o (IsAskedOf batch.arrivals (batch.number * 8 + lane) v)
    in_lane None is v at = tt
    in_lane (Some o) is v at = is v at

    pick : ((k ≡ lane) × (receipt ≡ r)) ⊎ ((k ≢ lane) × (slice_get asked k ≡ Some r))
        → IfSome r (IsAskedOf batch.arrivals (batch.number * 8 + k) verdict)
    pick (inr old) = before k verdict r at old.1
    pick (inl new) =
        subst (λ n. IfSome r (IsAskedOf batch.arrivals (batch.number * 8 + n) verdict)) (sym new.0)
        (subst (λ o. IfSome o (IsAskedOf batch.arrivals (batch.number * 8 + lane) verdict)) new.1
        (in_lane receipt own verdict (subst (λ n. slice_get batch.verdicts n ≡ Some verdict) new.0 at)))

-- what was asked in a lane is the request of its arrival
pub asked_in : (batch : CheckedBatch) (lane : ℕ) (ask : Ask) (o : Option Receipt) → IsAskIn batch lane ask
    → IfSome o (λ receipt. IsAsked ask.tag ask.prepared.now.request ask.moment ask.draw.now receipt.entry)
    → IfSome o (λ receipt. IsSealable receipt.entry.answer) → IfSome o (IsAskedIn batch lane)
asked_in batch lane ask None is asked sealable = tt
asked_in batch lane ask (Some receipt) is asked sealable = λ verdict at.
    let of = is.of verdict at in
    record {
      request = ask.prepared.now.request;
      verdict_is = of.verdict_is;
      timed = of.timed;
      arrival = of.arrival;
      asked = subst (λ tag. IsAsked tag ask.prepared.now.request of.timed.moment of.timed.draw receipt.entry) of.tag
          (subst (λ moment. IsAsked ask.tag ask.prepared.now.request moment of.timed.draw receipt.entry) of.moment
          (subst (λ draw. IsAsked ask.tag ask.prepared.now.request ask.moment draw receipt.entry) of.draw asked));
      sealable = sealable;
    }

take_set : {A : Type 0} (xs : List A) (k : ℕ) (x : A) → k < length xs → take (suc k) (set xs k x) ≡ take k xs ++ x ∷ []
take_set [] k x within = absurd (omega (arith, within))
take_set (a ∷ xs) zero x within = refl
take_set (a ∷ xs) (suc k) x within = ap (λ l. a ∷ l) (take_set xs k x (omega (arith, within)))

entries_push : (asked : List (Option Receipt)) (receipt : Option Receipt)
    → entries_in (asked ++ receipt ∷ []) ≡ entries_in asked ++ somes (entry_of receipt ∷ [])
entries_push [] receipt = refl
entries_push (None ∷ asked) receipt = entries_push asked receipt
entries_push (Some r ∷ asked) receipt = ap (λ l. r.entry ∷ l) (entries_push asked receipt)

-- the entries of the lanes up to one more
pub entries_more : (asked : List (Option Receipt)) (lane : ℕ) (receipt : Option Receipt) → lane < length asked
    → entries_in (take (lane + 1) (set asked lane receipt)) ≡ entries_in (take lane asked) ++ somes (entry_of receipt ∷ [])
entries_more asked lane receipt within =
    let next : lane + 1 ≡ suc lane = omega arith in
    ap (λ n. entries_in (take n (set asked lane receipt))) next
    ∙ ap entries_in (take_set asked lane receipt within) ∙ entries_push (take lane asked) receipt

-- and the history with them
pub history_more : (before now after : List Entry) (asked : List (Option Receipt)) (lane : ℕ) (receipt : Option Receipt)
    → lane < length asked
    → now ≡ before ++ entries_in (take lane asked) → after ≡ now ++ somes (entry_of receipt ∷ [])
    → after ≡ before ++ entries_in (take (lane + 1) (set asked lane receipt))
history_more before now after asked lane receipt within was is =
    is ∙ ap (λ l. l ++ somes (entry_of receipt ∷ [])) was
    ∙ append_assoc before (entries_in (take lane asked)) (somes (entry_of receipt ∷ []))
    ∙ ap (λ l. before ++ l) (sym (entries_more asked lane receipt within))

pub count_more : (before now after : ℕ) (asked : List (Option Receipt)) (lane : ℕ) (receipt : Option Receipt) → lane < length asked
    → now ≡ before + length (entries_in (take lane asked)) → after ≡ now + length (somes (entry_of receipt ∷ []))
    → after ≡ before + length (entries_in (take (lane + 1) (set asked lane receipt)))
count_more before now after asked lane receipt within was is =
    omega (
      arith,
      was,
      is,
      ap length (entries_more asked lane receipt within),
      length-append (entries_in (take lane asked)) (somes (entry_of receipt ∷ [])),
    )

-- what holds of a result that is good holds where it is an option
pub asked_ok : (P : Receipt → Type 0) {E : Type 0} (r : Result Receipt E) (o : Option Receipt) → o ≡ result_ok r → IfOk r P
    → IfSome o P
asked_ok P (Ok receipt) o is holds = subst (λ x. IfSome x P) (sym is) holds
asked_ok P (Err fault) o is holds = subst (λ x. IfSome x P) (sym is) tt
