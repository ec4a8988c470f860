-- Seats: what a seat that hasn't finished has drawn, and what it keeps when it draws.
use Rattle.std.proofs.Common.{◌≡◌, ℕ, ◌<◌, Bool, false, List, [], ◌∷◌, ◌++◌, Option, Some, None, is_some, sym, refl, ap, ◌∙◌}
use Rattle.std.proofs.Common.{append-nil}
use Rattle.std.proofs.lemmas.Bool.{false≢true}
use Rattle.std.proofs.lemmas.List.Elements.{All-push}
use Rattle.std.proofs.lemmas.List.Quantifiers.{all_pairs_push}
use Rattle.std.specs.List.{All}
use Rattle.atomic_table.specs.Table.{Me}
use Rattle.rad_claim.specs.Claims.{HasDrawn, drawn_by}
use Rattle.rad_claim.specs.Draws.{lent}
use Rattle.rad_claim.specs.declared.view.View.{View}

pub none_of : (ended : Option ℕ) (tested : Bool) → tested ≡ is_some ended → tested ≡ false → ended ≡ None
none_of None tested is not_one = refl
none_of (Some number) tested is not_one = absurd (false≢true (sym not_one ∙ is))

-- it has drawn its batches alone
pub unfinished : (me : Me (Unit {0}) View) (claimed : List ℕ) (ended : Option ℕ) → ended ≡ None
    → me ≡ (lent (drawn_by claimed ended), []) → me ≡ (lent claimed, [])
unfinished me claimed None none view = view ∙ ap (λ (numbers : List ℕ). (lent numbers, [])) (append-nil claimed)
unfinished me claimed (Some number) none view = absurd cc

-- it draws a batch
pub claimed_more : (batches number capacity : ℕ) (before after : Me (Unit {0}) View) (claimed : List ℕ) (ended : Option ℕ)
    → HasDrawn batches before claimed capacity ended
    → ended ≡ None → number < batches → All (λ had. had < number) claimed → after ≡ (lent (claimed ++ number ∷ []), [])
    → HasDrawn batches after (claimed ++ number ∷ []) capacity ended
claimed_more batches number capacity before after claimed (Some other) seat none batch new drew = absurd cc
claimed_more batches number capacity before after claimed None seat none batch new drew = record {
  view = drew ∙ ap (λ (numbers : List ℕ). (lent numbers, [])) (sym (append-nil (claimed ++ number ∷ [])));
  below = All-push (λ had. had < batches) claimed number seat.below batch;
  rises = all_pairs_push (λ had later. had < later) claimed number seat.rises (λ place default inside. new place default inside);
  end = tt;
  capacity_is = seat.capacity_is;
}
