use Rattle.std.proofs.Common.{◌≡◌, ◌<◌, ◌∷◌, [], length, slice_index, refl, sym, ap, ◌∙◌, arith, rules}
use Rattle.std.proofs.lemmas.List.{ext_get_or, get_or-map, length-map}
use Rattle.rad_md5.specs.Lanes.{EachLane, message_at}
use Rattle.rad_md5.specs.Pieces.{digest}
use Rattle.md5.specs.Md5.{md5}
use Rattle.rad_md5.proofs.LaneLemmas.{below_eight}
use Rattle.rad_md5.proofs.digest.digest8.Goals as goal

pub returns : goal.returns
returns c =
    let messages = c.args.messages.now in
    let size : length messages ≡ 8 = search rules in
    let in_order : EachLane (λ j. slice_index (0 ∷ 1 ∷ 2 ∷ 3 ∷ 4 ∷ 5 ∷ 6 ∷ 7 ∷ []) j ≡ j) =
    below_eight _ refl refl refl refl refl refl refl refl in
    ext_get_or [] _ _ (c.digests_in.ensures.eight ∙ sym size ∙ sym (length-map messages digest)) (λ j below.
    let few : j < 8 = omega (arith, below, c.digests_in.ensures.eight) in
    c.digests_in.ensures.made j few
    ∙ c.hash8.ensures j few
    ∙ ap (λ place. md5 (message_at messages place)) (in_order j few)
    ∙ sym (get_or-map digest messages j [] [] (omega arith)))
