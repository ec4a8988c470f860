use Rattle.std.proofs.Common.{◌≡◌, ◌<◌, length, slice_index, arith, inl, inr}
use Rattle.std.proofs.lemmas.Bool.{cases_lt}
use Rattle.rad_md5.proofs.DigestLemmas.{set_kept, set_placed}
use Rattle.rad_md5.proofs.digest.place_digests.Goals as goal

pub lanes-preserved : goal.lanes-preserved
lanes-preserved c =
    let j = c.lanes.j in
    let place = slice_index c.args.places.now j in
    let inside : place < length c.lanes.digests = omega (arith, c.requires.inside j c.lanes-test.true, c.lanes.auto.digests) in (
      (λ right made i held. set_kept right c.lanes.digests place _ inside (made j c.lanes-test.true) i
          (c.lanes.invariant.0 right made i held)),
      (λ right made k below. elim (cases_lt k j) [
        | inl before ↦ set_kept right c.lanes.digests place _ inside (made j c.lanes-test.true) _
            (c.lanes.invariant.1 right made k before)
        | inr last ↦
            let same : k ≡ j = omega arith in
            rw same (set_placed right c.lanes.digests place _ inside (made j c.lanes-test.true))
      ]),
    )
