use Rattle.std.proofs.Common.{◌∙◌, arith}
use Rattle.rad_rows.proofs.SweepLemmas.{swept_goes, swept_stays}
use Rattle.rad_rows.proofs.plain.sweep.Goals as goal

pub loop-at-preserved : goal.loop-at-preserved
loop-at-preserved g c =
    let told = g.G.Tally.told in
    let live = g.T.Row.is_live in
    let spans = c.args.spans.now in
    let now = c.args.now in
    let old = c.args.tally.now in
    let xs = c.args.rows.now.items in
    let ys = c.loop-at.rows.items in
    let k = c.loop-at.kept in
    let i = c.loop-at.at in
    let tally = c.loop-at.tally in
    let bound = c.loop-at.bound in
    let row = c.index-row.result.now in
    let ends = c.ends-ends.result in
    elim c.if-now-ends.branch [
      | goal.then-now-ends w ↦ rw (w.rows-is, w.kept-is, w.tally-is, w.bound-is) (record {
        swept =
            swept_stays told live spans now old xs ys w.swap.new.self.items k i tally bound ends w.min-bound.result row
            c.loop-at.invariant.swept (omega arith) c.index-row.ensures c.requires c.ends-ends.ensures
            w.if-now-ends.true (omega arith) (omega arith) w.swap.ensures.by_index;
        capacity = w.swap.ensures.capacity ∙ c.loop-at.invariant.capacity;
      })
      | goal.else-now-ends w ↦ rw (w.rows-is, w.kept-is, w.tally-is, w.bound-is) (record {
        swept =
            swept_goes told live spans now old xs ys k i tally w.leave.new.self bound ends row c.loop-at.invariant.swept
            (omega arith)
            c.index-row.ensures c.requires c.ends-ends.ensures
            w.if-now-ends.false w.leave.ensures;
        capacity = c.loop-at.invariant.capacity;
      })
    ]
