use Rattle.std.proofs.Common.{◌≡◌, ◌∙◌, arith, sym, subst, nat_eq, true, ◌++◌, ◌∷◌, [], ℕ, List}
use Rattle.indexmap.proofs.CallerLemmas.{insert_entry-new}
use Rattle.rad_rows.specs.Blocks.{SeenBlock}
use Rattle.rad_rows.specs.Entries.{IsGrouped, IsSound, all_rows, has_room_at}
use Rattle.rad_rows.proofs.GroupLemmas.{grouped_add}
use Rattle.rad_rows.proofs.LastLemmas.{key_is_new, room_add, rows_add, sound_add}
use Rattle.rad_rows.proofs.blocks.add.Goals as goal

pub returns-in-Ok : goal.returns-in-Ok
returns-in-Ok g c =
    let es = c.args.blocks.now.entries in
    let key = c.args.key in
    let b = c.in_ok-block.block in
    let none = c.in_ok-block.ensures.rows in
    let new = key_is_new 0 key es c.requires.sound.ascends c.requires.sound.limited (omega arith) c.requires.last in
    let is : c.insert.new.self.entries ≡ es ++ (key, b) ∷ [] =
    c.in-Ok.ensures.entries ∙ insert_entry-new nat_eq c.args.blocks.now key b new.0 in
    subst (λ (l : List (ℕ × SeenBlock g.row.T.Denot g.row.S.Denot)). IsSound g.T.Row.number c.args.spans.now key l
    × (all_rows l ≡ all_rows es) × IsGrouped g.T.Row.is_live 0 c.args.bounds.now l × (has_room_at key l ≡ true) × Unit {0})
    (sym is) (
      sound_add g.T.Row.number c.args.spans.now key es b c.requires.sound (new.1 b) none c.in_ok-block.ensures.spans,
      rows_add key es b none,
      grouped_add g.T.Row.is_live c.args.bounds.now es key b c.requires.enough none c.requires.grouped,
      room_add key es b none c.in_ok-block.ensures.room,
      tt,
    )
