use Rattle.std.proofs.Common.{◌+◌}
use Rattle.rad_rows.specs.Entries.{HasSpans, all_rows}
use Rattle.rad_rows.specs.Rows.{Tells}
use Rattle.rad_rows.proofs.EntryLemmas.{block_holds, told_step}
use Rattle.rad_rows.proofs.ExpiryLemmas.{spared_bounds, spared_told}
use Rattle.rad_rows.proofs.GroupLemmas.{grouped_any}
use Rattle.rad_rows.proofs.expiry.tell_dead.Goals as goal

pub loop-at-init : goal.loop-at-init
loop-at-init g c =
    let live = g.T.Row.is_live in
    let es = c.args.blocks.now.entries in
    let next = c.next_due-at in
    record {
      within = next.ensures.to;
      told = spared_told live c.args.now c.requires.now g.G.Tally.told c.args.spans.now es 0 next.result c.args.tally.now
          (Tells g.G.Tally.told live c.args.spans.now c.args.now (all_rows es) c.args.tally.now) next.ensures.from c.requires.spans
          (spared_bounds live c.args.now c.requires.now c.args.bounds.now es 0 next.result c.requires.grouped next.ensures.begun
          next.ensures.later)
          (λ last more. more);
    }

pub loop-at-preserved : goal.loop-at-preserved
loop-at-preserved g c =
    let live = g.T.Row.is_live in
    let told = g.G.Tally.told in
    let spans = c.args.spans.now in
    let now = c.args.now in
    let es = c.args.blocks.now.entries in
    let at = c.loop-at.at in
    let v = c.index.result.now in
    let next = c.next_due-at-in-loop-at in
    let bounds = c.args.bounds.now in
    record {
      within = next.ensures.to;
      told = spared_told live now c.requires.now told spans es (at + 1) next.result c.tell_dead.new.tally
          (Tells told live spans now (all_rows es) c.args.tally.now) next.ensures.from c.requires.spans
          (spared_bounds live now c.requires.now bounds es (at + 1) next.result
          (grouped_any live (at + 1) bounds es c.requires.grouped)
          next.ensures.begun next.ensures.later)
          (told_step live told spans now es at v (all_rows es) c.args.tally.now c.loop-at.tally c.tell_dead.new.tally
          c.index.ensures
          (block_holds (HasSpans spans) es at v c.index.ensures c.requires.spans).1.same c.tell_dead.ensures
          c.loop-at.invariant.told);
    }
