use Rattle.std.proofs.Common.{◌∙◌, sym, arith}
use Rattle.rad_rows.specs.Blocks.{block_changed}
use Rattle.rad_rows.proofs.EntryLemmas.{no_some}
use Rattle.rad_rows.proofs.GroupLemmas.{get_value, grouped_lower}
use Rattle.rad_rows.proofs.PlaceLemmas.{entry_at_key, find_at, find_none, none_touched, one_touched, skip_changed}
use Rattle.rad_rows.proofs.blocks.change.Goals as goal

pub returns-in_default-clause-was : goal.returns-in_default-clause-was
returns-in_default-clause-was g c =
    sym (find_none g.T.Row.number c.args.number c.args.blocks.now.entries c.requires.placed (no_some _ c.in_default.ensures.found))

pub returns-in_default-clause-entries : goal.returns-in_default-clause-entries
returns-in_default-clause-entries g c =
    let number = g.T.Row.number in
    let to = g.C.Change.to c.args.by.now in
    sym (none_touched number c.args.number (block_changed number c.args.number to) (skip_changed number c.args.number to)
    c.args.blocks.now.entries c.requires.placed (no_some _ c.in_default.ensures.found))

pub returns-clause-was : goal.returns-clause-was
returns-clause-was g c =
    let es = c.args.blocks.now.entries in
    let v = c.index_mut-block.result.now in
    c.change-was.ensures.was
    ∙ sym (find_at g.T.Row.number c.args.number 0 es c.in-Some.at v c.requires.ascends c.requires.placed
    (entry_at_key g.T.Row.number c.args.number es c.in-Some.at _ v (sym c.in-Some.ensures.index) c.index_mut-block.ensures.value))

pub returns-clause-entries : goal.returns-clause-entries
returns-clause-entries g c =
    let number = g.T.Row.number in
    let to = g.C.Change.to c.args.by.now in
    let es = c.args.blocks.now.entries in
    let v = c.index_mut-block.result.now in
    one_touched number c.args.number (block_changed number c.args.number to) (skip_changed number c.args.number to) 0
    es c.in-Some.at v c.change-was.new.self c.requires.ascends c.requires.placed
    (entry_at_key number c.args.number es c.in-Some.at _ v (sym c.in-Some.ensures.index) c.index_mut-block.ensures.value)
    c.change-was.ensures.block

pub lower-requires : goal.lower-requires
lower-requires g c =
    let v = c.index_mut-block.result.now in
    omega (
      arith,
      c.requires.grouped.enough,
      (get_value c.args.blocks.now.entries c.in-Some.at v (0, v) c.index_mut-block.ensures.value).0,
    )

pub returns-clause-grouped : goal.returns-clause-grouped
returns-clause-grouped g c =
    grouped_lower g.T.Row.is_live c.in-Some.at c.args.bounds.now c.lower.new.self c.bound.result c.args.blocks.now.entries
    c.change-was.new.self
    c.requires.grouped c.lower.ensures.len c.lower.ensures.earlier c.lower.ensures.here c.bound.ensures
