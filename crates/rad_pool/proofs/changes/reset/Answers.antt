use Rattle.std.proofs.Common.{◌∙◌, sym}
use Rattle.std.proofs.lemmas.Bool.{eqb-true}
use Rattle.rad_pool.proofs.CountLemmas.{reset_nothing, rows_reset}
use Rattle.rad_pool.proofs.changes.reset.Goals as goal

pub returns-then-none_open-clause-rows : goal.returns-then-none_open-clause-rows
returns-then-none_open-clause-rows c =
    sym (reset_nothing c.args.source c.end_linked.new.rows.rows
    (sym (c.end_linked.ensures.counts.holds.sources.is c.args.source)
    ∙ eqb-true _ 0 (sym c.none_open.ensures ∙ c.if-none_open.true)))
    ∙ c.end_linked.ensures.rows

pub returns-clause-counts : goal.returns-clause-counts
returns-clause-counts c =
    rows_reset c.args.source c.end_linked.new.rows c.change_all.new.self c.end_linked.new.counts c.end_all.new.counts
    c.end_linked.ensures.counts c.end_all.ensures.counts c.end_all.ensures.room c.change_all.ensures.rows
    c.change_all.ensures.room
