use Rattle.std.proofs.Common.{◌≡◌, ◌^◌, ◌%◌, slice_index, Fits, ◌∙◌, arith}
use Rattle.std.proofs.lemmas.Nat.{and_mask}
use Rattle.std.specs.Int.Bits.{and_zero_r}
use Rattle.std.proofs.lemmas.Simd.{Each1-get_or}
use Rattle.std.specs.Int.{w32}
use Rattle.rad_md5.proofs.lanes.carry.Goals as goal

pub returns-clause-taken : goal.returns-clause-taken
returns-clause-taken c = λ j below live.
    let h = slice_index c.args.h j in
    let v = slice_index c.args.v j in
    let masked : slice_index c.and.result j ≡ v % 2 ^ 32 = rw live at (c.and.ensures j below) ∙ and_mask v 32 in
    rw masked at (c.add.ensures j below) ∙ omega arith

pub returns-clause-left : goal.returns-clause-left
returns-clause-left c = λ j below dead.
    let h = slice_index c.args.h j in
    let v = slice_index c.args.v j in
    let fits = Each1-get_or (Fits w32) c.args.h j 0 (omega (arith, c.fits-h.0)) c.fits-h.1 in
    let masked : slice_index c.and.result j ≡ 0 = rw dead at (c.and.ensures j below) ∙ and_zero_r v in
    rw masked at (c.add.ensures j below) ∙ omega (arith, fits)
