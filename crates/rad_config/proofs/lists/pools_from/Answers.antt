use Rattle.std.proofs.Common.{◌+◌, sym, ◌∙◌, arith}
use Rattle.std.proofs.lemmas.Result.{err_from_is_err_and}
use Rattle.rad_config.specs.Configurations.{pool_in}
use Rattle.rad_config_fault.specs.declared.config_fault.Part.TheVariants as part
use Rattle.rad_config.proofs.EntryLemmas.{and_entry-length, entries_from-all, entries_from-more, entries_from-refused}
use Rattle.rad_config.proofs.lists.pools_from.Goals as goal

pub returns-in_err-add_pool-clause-read : goal.returns-in_err-add_pool-clause-read
returns-in_err-add_pool-clause-read c =
    let p = err_from_is_err_and c.from_residual.result c.from_residual.ensures.1 in
    let here = entries_from-refused part.Pool pool_in c.args.items.now c.loop-place.place c.index-items-place.result
    c.loop-place.pools.items in
    rw (p.1, p.2) (here c.loop-place-test.true c.index-items-place.is _ _ c.in_err-add_pool.ensures.read
    c.loop-place.invariant.as_all)

pub loop-place-preserved : goal.loop-place-preserved
loop-place-preserved c =
    let read = c.in_ok-add_pool.ensures.read in
    let here = entries_from-more part.Pool pool_in c.args.items.now c.loop-place.place c.index-items-place.result
    c.loop-place.pools.items in
    let next = here c.loop-place-test.true c.index-items-place.is _ read in
    record {
      one_each = rw (and_entry-length _ _ _ _ _ _ read) (omega arith);
      as_all = sym next ∙ c.loop-place.invariant.as_all;
      ranges = c.in_ok-add_pool.ensures.range;
    }

pub returns-clause-read : goal.returns-clause-read
returns-clause-read c =
    sym c.loop-place.invariant.as_all
    ∙ entries_from-all part.Pool pool_in c.args.items.now c.loop-place.place (c.loop-place.place + 1) c.loop-place.pools.items
    c.loop-place-test.false
