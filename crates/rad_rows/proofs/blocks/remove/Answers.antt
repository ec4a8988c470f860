use Rattle.std.proofs.Common.{sym, arith}
use Rattle.rad_rows.specs.Blocks.{block_without}
use Rattle.rad_rows.proofs.EntryLemmas.{count_more, length_part, no_some, without_length}
use Rattle.rad_rows.proofs.PlaceLemmas.{entry_at_key, none_touched, one_touched, skip_without}
use Rattle.rad_rows.proofs.blocks.remove.Goals as goal

pub returns-in_default-clause-entries : goal.returns-in_default-clause-entries
returns-in_default-clause-entries g c =
    sym (none_touched g.T.Row.number c.args.number (block_without g.T.Row.number c.args.number)
    (skip_without g.T.Row.number c.args.number)
    c.args.blocks.now.entries c.requires.placed (no_some _ c.in_default.ensures.found))

pub overflow_sub-result : goal.overflow_sub-result
overflow_sub-result g c =
    omega (arith, without_length g.T.Row.number c.args.number c.index_mut-block.result.now c.remove.new.self c.remove.ensures)

pub overflow_sub-result-2 : goal.overflow_sub-result-2
overflow_sub-result-2 g c =
    omega (arith, length_part c.args.blocks.now.entries c.in-Some.at c.index_mut-block.result.now c.index_mut-block.ensures.value)

pub returns-clause-entries : goal.returns-clause-entries
returns-clause-entries g c =
    one_touched g.T.Row.number c.args.number (block_without g.T.Row.number c.args.number)
    (skip_without g.T.Row.number c.args.number) 0
    c.args.blocks.now.entries c.in-Some.at c.index_mut-block.result.now c.remove.new.self
    c.requires.ascends c.requires.placed
    (entry_at_key g.T.Row.number c.args.number c.args.blocks.now.entries c.in-Some.at _ c.index_mut-block.result.now
    (sym c.in-Some.ensures.index) c.index_mut-block.ensures.value)
    c.remove.ensures

pub returns-clause-count : goal.returns-clause-count
returns-clause-count g c =
    count_more c.args.blocks.now.entries c.in-Some.at c.index_mut-block.result.now c.remove.new.self c.args.count
    c.len-before.result
    c.len-after.result c.index_mut-block.ensures.value c.len-before.ensures c.len-after.ensures
    (omega (arith, without_length g.T.Row.number c.args.number c.index_mut-block.result.now c.remove.new.self c.remove.ensures))
    c.requires.count
