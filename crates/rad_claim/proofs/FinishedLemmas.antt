-- Seats that have finished: which they are, and that with all of them claims close.
use Rattle.std.proofs.Common.{◌≡◌, ℕ, ◌≤◌, Bool, true, false, cond, ltb, List, None, Some, Option, IfNone, MatchOption, is_some}
use Rattle.std.proofs.Common.{length, refl, ap, ◌∙◌, arith}
use Rattle.std.proofs.lemmas.Bool.Decides.{nat_tests}
use Rattle.std.proofs.lemmas.List.Sums.{list_all-from_AllPass}
use Rattle.std.specs.List.{All, list_all}
use Rattle.rad_claim.specs.Claims.{ClaimSeat, HasEnded, close_fault, has_finished, with_end}
use Rattle.rad_claim.specs.declared.close_fault.CloseFault.TheVariants.{TooFew, Unfinished}

-- a seat that is told that there are no more batches has finished, and has the batches that it had
pub ended_is : (told : Option ℕ) (before after : ClaimSeat) → told ≡ None → IfNone told (HasEnded before after)
    → (has_finished after ≡ true) × (after.claimed ≡ before.claimed)
ended_is (Some number) before after none ended = absurd cc
ended_is None before after none ended = by before.ended refl ended
  where
    by : (number : Option ℕ) → before.ended ≡ number
        → MatchOption number ((x : ℕ) × (before.batches ≤ x) × (after ≡ with_end x before)) (λ x. after ≡ before)
        → (has_finished after ≡ true) × (after.claimed ≡ before.claimed)
    by None is end = (ap has_finished end.2, ap (λ (s : ClaimSeat). s.claimed) end.2)
    by (Some x) is end = (ap has_finished end ∙ ap is_some is, ap (λ (s : ClaimSeat). s.claimed) end)

-- if all seats are handed in and have finished, there is no fault
pub no_fault : (seats : ℕ) (handed : List ClaimSeat) → seats ≤ length handed → All (λ seat. has_finished seat ≡ true) handed
    → close_fault seats handed ≡ None
no_fault seats handed enough finished =
    by (ltb (length handed) seats) (list_all has_finished handed) none_missing (list_all-from_AllPass has_finished handed finished)
  where
    none_missing : ltb (length handed) seats ≡ false
    none_missing = grind (arith, nat_tests)

    by : (missing all : Bool) → missing ≡ false → all ≡ true → cond missing (Some TooFew) (cond all None (Some Unfinished)) ≡ None
    by missing all none_missing all_finished = cc
