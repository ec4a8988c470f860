use Rattle.std.proofs.Common.{◌≡◌, ◌∙◌, ◌+◌, ◌++◌, Some, arith, drop, length, slice_get, subst, sym, take}
use Rattle.std.specs.Map.{values_of}
use Rattle.indexmap.specs.IndexMap.{set_value_at}
use Rattle.rad_rows.specs.Blocks.{cut_block}
use Rattle.rad_rows.specs.Entries.{HasSpans, IsGrouped, all_rows, on_blocks}
use Rattle.rad_rows.specs.Rows.{Tells}
use Rattle.rad_rows.proofs.EntryLemmas.{as_many, block_holds, count_more, cut_length, entries_more, length_part, old_block}
use Rattle.rad_rows.proofs.EntryLemmas.{told_step}
use Rattle.rad_rows.proofs.ExpiryLemmas.{AreSpared, spared_bounds, spared_entries, spared_told, still_spared}
use Rattle.rad_rows.proofs.GroupLemmas.{grouped_all, grouped_pass, grouped_renew}
use Rattle.rad_rows.proofs.expiry.sweep.Goals as goal

pub loop-at-init : goal.loop-at-init
loop-at-init g c =
    let live = g.T.Row.is_live in
    let now = c.args.now in
    let es = c.args.blocks.now.entries in
    let next = c.next_due-at in
    let spared : AreSpared live now c.requires.now es 0 next.result =
    spared_bounds live now c.requires.now c.args.bounds.now es 0 next.result c.requires.grouped next.ensures.begun
    next.ensures.later in
    record {
      within = next.ensures.to;
      entries = spared_entries live now c.requires.now es 0 next.result next.ensures.from spared;
      told = spared_told live now c.requires.now g.G.Tally.told c.args.spans.now es 0 next.result c.args.tally.now
          (Tells g.G.Tally.told live c.args.spans.now now (all_rows es) c.args.tally.now) next.ensures.from c.requires.spans spared
          (λ last more. more);
      count = c.requires.count;
      grouped = grouped_pass live 0 next.result c.args.bounds.now es next.ensures.from next.ensures.begun c.requires.grouped;
    }

pub overflow_sub-count : goal.overflow_sub-count
overflow_sub-count g c =
    omega (arith, cut_length g.T.Row.is_live c.args.now c.index_mut-block.result.now c.sweep.new.self c.sweep.ensures.cut)

pub overflow_sub-count-in-loop-at : goal.overflow_sub-count-in-loop-at
overflow_sub-count-in-loop-at g c =
    omega (arith, length_part c.loop-at.blocks.entries c.loop-at.at c.index_mut-block.result.now c.index_mut-block.ensures.value)

pub loop-at-preserved : goal.loop-at-preserved
loop-at-preserved g c =
    let live = g.T.Row.is_live in
    let told = g.G.Tally.told in
    let spans = c.args.spans.now in
    let now = c.args.now in
    let small = c.requires.now in
    let f = cut_block live now in
    let es = c.args.blocks.now.entries in
    let ys = c.loop-at.blocks.entries in
    let at = c.loop-at.at in
    let v = c.index_mut-block.result.now in
    let w = c.sweep.new.self in
    let new = set_value_at ys at w in
    let next = c.next_due-at-in-loop-at in
    let here : slice_get (values_of ys) at ≡ Some v = c.index_mut-block.ensures.value in
    let old : slice_get (values_of es) at ≡ Some v = old_block f es ys at v c.loop-at.invariant.entries here in
    let is : new ≡ on_blocks f (take (at + 1) es) ++ drop (at + 1) es =
    entries_more f es ys at v w c.loop-at.invariant.entries here c.sweep.ensures.cut in
    let grouped : IsGrouped live (at + 1) c.renew.new.self new =
    grouped_renew live at c.loop-at.bounds c.renew.new.self c.bound.result ys w c.loop-at.invariant.grouped
    c.renew.ensures.len c.renew.ensures.earlier c.renew.ensures.here c.bound.ensures in
    let spared : AreSpared live now small es (at + 1) next.result =
    still_spared live now small es (at + 1) next.result (subst (λ l. AreSpared live now small l (at + 1) next.result) is
    (spared_bounds live now small c.renew.new.self new (at + 1) next.result grouped next.ensures.begun next.ensures.later)) in
    record {
      within = next.ensures.to;
      entries = is ∙ spared_entries live now small es (at + 1) next.result next.ensures.from spared;
      told = spared_told live now small told spans es (at + 1) next.result c.sweep.new.tally
          (Tells told live spans now (all_rows es) c.args.tally.now) next.ensures.from c.requires.spans spared
          (told_step live told spans now es at v (all_rows es) c.args.tally.now c.loop-at.tally c.sweep.new.tally old
          (block_holds (HasSpans spans) es at v old c.requires.spans).1.same c.sweep.ensures.told c.loop-at.invariant.told);
      count = count_more ys at v w c.loop-at.count c.len-before.result c.len-after.result here c.len-before.ensures
          c.len-after.ensures
          (omega (arith, cut_length live now v w c.sweep.ensures.cut)) c.loop-at.invariant.count;
      grouped = grouped_pass live (at + 1) next.result c.renew.new.self new next.ensures.from next.ensures.begun grouped;
    }

pub returns-clause-grouped : goal.returns-clause-grouped
returns-clause-grouped g c =
    let ys = c.loop-at.blocks.entries in
    let many : length ys ≡ length c.args.blocks.now.entries =
    as_many (cut_block g.T.Row.is_live c.args.now) c.args.blocks.now.entries ys c.loop-at.at c.loop-at.invariant.entries in
    subst (λ bounds. IsGrouped g.T.Row.is_live 0 bounds ys) (sym c.settle.ensures)
    (grouped_all g.T.Row.is_live c.loop-at.at c.loop-at.bounds ys (omega (arith, many, c.loop-at-test.false, c.len-len.ensures.len))
    c.loop-at.invariant.grouped)
