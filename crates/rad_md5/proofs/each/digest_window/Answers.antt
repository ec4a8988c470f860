use Rattle.std.proofs.Common.{◌≡◌, ◌+◌, ◌-◌, ◌*◌, ◌<◌, ◌≤◌, [], length, take, drop, slice_index, sym, ◌∙◌, arith, inl, inr}
use Rattle.std.proofs.lemmas.Bool.{cases_lt}
use Rattle.std.proofs.lemmas.List.{ext_get_or, get_or-map, get_or-take, length-drop, length-map, length-take}
use Rattle.std.proofs.lemmas.Grind.{get_or_default_zero}
use Rattle.rad_md5.specs.Pieces.{digest}
use Rattle.rad_md5.proofs.DigestLemmas.{mid_place}
use Rattle.rad_md5.proofs.each.digest_window.Goals as goal

pub groups-preserved : goal.groups-preserved
groups-preserved c = λ k below.
    let places = c.shortest_first-places.result in
    let start = 8 * c.groups.i in
    let n = c.min-end.result - start in
    elim (cases_lt k start) [
      | inl before ↦ c.digest_group.ensures.kept (slice_index places k) (c.groups.invariant k (omega arith))
      | inr here ↦
          let few : k - start < n = omega (arith, c.min-end.ensures) in
          let place : start + (k - start) ≡ k = omega arith in
          let size : k - start < length (take n (drop start places)) =
          omega (
            arith,
            few,
            length-take n (drop start places),
            length-drop start places,
            c.shortest_first-places.ensures.all,
            c.requires.few,
            below,
          ) in
          rw (mid_place places start n (k - start) few, place) at (c.digest_group.ensures.placed (k - start) size)
    ]

pub returns : goal.returns
returns c =
    let messages = c.args.messages.now in
    let places = c.shortest_first-places.result in
    let size : length c.groups.digests ≡ length messages = c.groups.auto.digests ∙ c.requires.equal in
    let over : length messages ≤ 8 * c.groups.i = omega (arith, c.div_ceil-groups.ensures, c.groups-test.false) in
    ext_get_or [] _ _ (size ∙ sym (length-map messages digest)) (λ i below.
    let inside : i < length messages = omega (arith, size) in
    let there = c.shortest_first-places.ensures.every i inside in
    let k = there.0 in
    let few : k < length messages = omega (arith, there.1, length-take (length messages) places) in
    let same : slice_index places k ≡ i =
    sym (get_or_default_zero places k i (omega (arith, few, c.requires.few, c.shortest_first-places.ensures.all)))
    ∙ sym (get_or-take (length messages) places k i few) ∙ there.2 in
    rw same at (c.groups.invariant k (omega (arith, few, over))) ∙ sym (get_or-map digest messages i [] [] inside))
