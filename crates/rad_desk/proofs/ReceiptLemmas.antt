-- Receipts of many passes.
use Rattle.std.proofs.Common.{◌≡◌, ◌<◌, ◌≤◌, ℕ, ◌+◌, List, [], ◌∷◌, ◌++◌, length, length-append, take, slice_index_or, All, arith}
use Rattle.std.proofs.Common.{inl, inr, subst}
use Rattle.std.proofs.lemmas.List.{take_all}
use Rattle.std.proofs.lemmas.Option.{get_or_from_slice_get, slice_get_within}
use Rattle.std.proofs.lemmas.List.Elements.{All-more, All-push}
use Rattle.rad_server.specs.declared.entry.Entry.{Entry}
use Rattle.rad_desk.specs.Passes.{AreNew, IsNew, Pass}
use Rattle.rad_desk.specs.Settlements.{HasMisplaced, IsSettled, MisplacedDisagree, AreInOrder, receipt_count}
use Rattle.rad_desk.specs.declared.receipt.Receipt.{Receipt}

-- the receipts of one more pass are counted too
pub receipt_count_push : (passes : List Pass) (pass : Pass)
    → receipt_count (passes ++ pass ∷ []) ≡ receipt_count passes + length pass.receipts
receipt_count_push [] pass = omega arith
receipt_count_push (first ∷ rest) pass = let h = receipt_count_push rest pass in omega (arith, h)

-- what is found of the receipts that are left, above a floor, is found of all
abbrev pub GoesOnFrom : List Entry → List Receipt → ℕ → List Receipt → Type 0
GoesOnFrom history receipts floor rest =
    (AreInOrder floor history rest → AreInOrder 0 history receipts)
    × ((place : ℕ) → HasMisplaced floor history rest place → HasMisplaced 0 history receipts place)

-- the passes up to one are settled, and it is too
pub one_more_settled : (history : List Entry) (passes : List Pass) (number : ℕ) (pass : Pass)
    → number < length passes → pass ≡ slice_index_or passes number pass
    → All (IsSettled history) (take number passes) → IsSettled history pass
    → All (IsSettled history) (take (number + 1) passes)
one_more_settled history passes number pass within is before settled =
    All-more (IsSettled history) passes number pass within before (subst (IsSettled history) is settled)

-- once the passes up to the last one are settled, all are
pub all_settled : (history : List Entry) (passes : List Pass) (number : ℕ)
    → length passes ≤ number → All (IsSettled history) (take number passes) → All (IsSettled history) passes
all_settled history passes number end settled =
    subst (λ (some : List Pass). All (IsSettled history) some) (take_all number passes end) settled

-- one more pass is new too
pub one_more_new : (count : ℕ) (passes : List Pass) (pass : Pass)
    → AreNew count passes → (pass.receipts ≡ []) × (pass.amount ≡ 0) → AreNew (count + 1) (passes ++ pass ∷ [])
one_more_new count passes pass new is_new =
    (omega (arith, length-append passes (pass ∷ []), new.0), All-push IsNew passes pass new.1 is_new)

-- receipts of which one is misplaced don't stand in order
misplaced_out_of_order : (floor : ℕ) (history : List Entry) (receipts : List Receipt) (place : ℕ)
    → HasMisplaced floor history receipts place → AreInOrder floor history receipts → ⊥
misplaced_out_of_order floor history [] place misplaced order = misplaced
misplaced_out_of_order floor history (receipt ∷ rest) place (inl first) order = first.1 order.0
misplaced_out_of_order floor history (receipt ∷ rest) place (inr later) order =
    misplaced_out_of_order (receipt.place + 1) history rest place later order.1

-- a misplaced receipt and agreement exclude each other
pub misplaced_disagree : MisplacedDisagree
misplaced_disagree history passes number place misplaced agrees =
    let pass = misplaced.0 in
    let settled : IsSettled history pass =
    subst (IsSettled history) (get_or_from_slice_get passes number pass pass misplaced.1)
    (agrees.settled number pass (slice_get_within passes number pass misplaced.1)) in
    misplaced_out_of_order 0 history pass.receipts place misplaced.2 settled
