use Rattle.std.proofs.Common.{◌-◌, ◌∷◌, [], ap, arith, subst, sym}
use Rattle.std.specs.List.{All}
use Rattle.std.proofs.lemmas.List.Elements.{All-push}
use Rattle.rad_rows.specs.Entries.{BelongsTo, key_of}
use Rattle.rad_rows.proofs.GroupLemmas.{get_value, grouped_lower}
use Rattle.rad_rows.proofs.LastLemmas.{room_key, rows_last, sound_set}
use Rattle.rad_rows.proofs.blocks.push.Goals as goal

pub returns-clause-sound : goal.returns-clause-sound
returns-clause-sound g c =
    let number = g.T.Row.number in
    let top = key_of (number c.args.row) in
    let es = c.args.blocks.now.entries in
    let v = c.index_mut-block.result.now in
    sound_set number c.args.spans.now top es (c.len-at.result - 1) v c.push.new.self c.index_mut-block.ensures.value
    c.push.ensures.spans
    (λ key here h. subst (All (BelongsTo number key)) (sym c.push.ensures.rows) (All-push (BelongsTo number key) v.rows c.args.row h
    (record {
      belongs = sym (room_key top es (c.len-at.result - 1) key v (ap (λ n. n - 1) c.len-at.ensures.len) c.requires.room
          here);
    })))
    c.requires.sound

pub returns-clause-rows : goal.returns-clause-rows
returns-clause-rows g c =
    let es = c.args.blocks.now.entries in
    let v = c.index_mut-block.result.now in
    let within = (get_value es (c.len-at.result - 1) v (0, v) c.index_mut-block.ensures.value).0 in
    rows_last es (c.len-at.result - 1) v c.push.new.self (c.args.row ∷ []) (omega (arith, c.len-at.ensures.len, within))
    c.index_mut-block.ensures.value c.push.ensures.rows

pub lower-requires : goal.lower-requires
lower-requires g c =
    let v = c.index_mut-block.result.now in
    omega (arith, c.requires.grouped.enough, (get_value c.args.blocks.now.entries _ v (0, v) c.index_mut-block.ensures.value).0)

pub returns-clause-grouped : goal.returns-clause-grouped
returns-clause-grouped g c =
    grouped_lower g.T.Row.is_live (c.len-at.result - 1) c.args.bounds.now c.lower.new.self c.bound.result c.args.blocks.now.entries
    c.push.new.self
    c.requires.grouped c.lower.ensures.len c.lower.ensures.earlier c.lower.ensures.here c.bound.ensures
