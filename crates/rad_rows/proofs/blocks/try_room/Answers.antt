use Rattle.rad_rows.proofs.GroupLemmas.{grouped_more}
use Rattle.rad_rows.proofs.blocks.try_room.Goals as goal

pub returns-in_err-grow-clause-grouped : goal.returns-in_err-grow-clause-grouped
returns-in_err-grow-clause-grouped g c =
    grouped_more g.T.Row.is_live c.args.bounds.now c.grow.new.self c.args.blocks.now.entries c.grow.ensures.longer
    c.grow.ensures.same
    c.requires.grouped

pub reserve-requires-clause-grouped : goal.reserve-requires-clause-grouped
reserve-requires-clause-grouped g c =
    grouped_more g.T.Row.is_live c.args.bounds.now c.grow.new.self c.args.blocks.now.entries c.grow.ensures.longer
    c.grow.ensures.same
    c.requires.grouped

pub add-requires-clause-grouped : goal.add-requires-clause-grouped
add-requires-clause-grouped g c =
    grouped_more g.T.Row.is_live c.args.bounds.now c.grow.new.self c.args.blocks.now.entries c.grow.ensures.longer
    c.grow.ensures.same
    c.requires.grouped
