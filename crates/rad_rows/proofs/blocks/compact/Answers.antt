use Rattle.std.proofs.Common.{◌∙◌, ap, arith, length, subst, sym}
use Rattle.std.proofs.lemmas.List.Sums.{count_by-le-length, length-filter}
use Rattle.rad_rows.specs.Entries.{IsGrouped, IsSound, all_rows, has_rows}
use Rattle.rad_rows.proofs.GroupLemmas.{grouped_zero}
use Rattle.rad_rows.proofs.RowsLemmas.{rows_with_rows, sound_filter}
use Rattle.rad_rows.proofs.blocks.compact.Goals as goal

pub returns-clause-sound : goal.returns-clause-sound
returns-clause-sound g c =
    subst (λ l. IsSound g.T.Row.number c.args.spans.now c.args.key l) (sym c.keep_with_rows.ensures)
    (sound_filter g.T.Row.number c.args.spans.now c.args.key has_rows c.args.blocks.now.entries c.requires.sound)

pub returns-clause-rows : goal.returns-clause-rows
returns-clause-rows g c = ap all_rows c.keep_with_rows.ensures ∙ rows_with_rows c.args.blocks.now.entries

pub returns-clause-grouped : goal.returns-clause-grouped
returns-clause-grouped g c =
    let es = c.args.blocks.now.entries in
    let new = c.keep_with_rows.new.blocks.entries in
    subst (λ l. IsGrouped g.T.Row.is_live 0 l new) (sym c.forget.ensures)
    (grouped_zero g.T.Row.is_live (length c.args.bounds.now) new
    (omega (
      arith,
      ap length c.keep_with_rows.ensures,
      length-filter has_rows es,
      count_by-le-length has_rows es,
      c.requires.grouped.enough,
    )))
