use Rattle.std.proofs.Common.{◌∙◌, ◌-◌, [], ap, arith, subst, sym}
use Rattle.std.specs.List.{All}
use Rattle.std.proofs.lemmas.List.{append-nil}
use Rattle.rad_rows.specs.Entries.{BelongsTo, all_rows}
use Rattle.rad_rows.proofs.BlockLemmas.{on_ok}
use Rattle.rad_rows.proofs.GroupLemmas.{get_value, grouped_same}
use Rattle.rad_rows.proofs.LastLemmas.{room_last, rows_last, sound_set}
use Rattle.rad_rows.proofs.blocks.reserve.Goals as goal

pub returns : goal.returns
returns g c =
    let number = g.T.Row.number in
    let es = c.args.blocks.now.entries in
    let i = c.len-at.result - 1 in
    let v = c.index_mut-block.result.now in
    let w = c.reserve.new.self in
    let at = c.index_mut-block.ensures.value in
    let rows = c.reserve.ensures.rows in (
      sound_set number c.args.spans.now c.args.key es i v w at c.reserve.ensures.spans
          (λ key here h. subst (All (BelongsTo number key)) (sym rows) h) c.requires.sound,
      rows_last es i v w [] (omega (arith, c.len-at.ensures.len, (get_value es i v (0, v) at).0)) at
          (rows ∙ sym (append-nil v.rows))
          ∙ append-nil (all_rows es),
      grouped_same g.T.Row.is_live c.args.bounds.now es i v w at rows c.reserve.ensures.spans c.requires.grouped,
      on_ok c.reserve.result (room_last c.args.key es i w (ap (λ n. n - 1) c.len-at.ensures.len) c.requires.last)
          c.reserve.ensures.ready,
    )
