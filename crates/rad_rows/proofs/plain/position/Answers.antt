use Rattle.std.proofs.Common.{◌≡◌, ◌∙◌, ap, false, not, sym}
use Rattle.std.proofs.lemmas.Bool.{eq-eqb}
use Rattle.rad_rows.specs.Rows.{has_other}
use Rattle.rad_rows.proofs.BlockLemmas.{filter_removed}
use Rattle.rad_rows.proofs.plain.position.Goals as goal

pub returns-then-number-clause-found : goal.returns-then-number-clause-found
returns-then-number-clause-found g c =
    let row = c.index-rows-at.result in
    let fails : has_other g.T.Row.number c.args.number row ≡ false =
    ap not (eq-eqb (g.T.Row.number row) c.args.number (sym c.number.ensures ∙ c.if-number.true)) in (
      c.loop-at-test.true,
      filter_removed (has_other g.T.Row.number c.args.number) c.args.rows.now c.loop-at.at row c.loop-at-test.true
          c.index-rows-at.is fails,
    )
