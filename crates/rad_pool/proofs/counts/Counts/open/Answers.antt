use Rattle.rad_pool.specs.Counts.{user_of}
use Rattle.rad_pool.proofs.OtherLemmas.{none_other}
use Rattle.rad_pool.proofs.CountLemmas.{no_source, none_of, none_open}
use Rattle.rad_pool.proofs.counts.Counts.open.Goals as goal

pub returns-clause-counts : goal.returns-clause-counts
returns-clause-counts c = record {
  users = none_open user_of c.in_ok-users.users.items _ c.in_ok-users.ensures;
  grants = none_of c.in_ok-grants.grants.items _ c.in_ok-grants.ensures;
  sources = no_source c.with_hasher-sources.result.entries c.with_hasher-sources.ensures.empty;
  pools = c.in_ok-pools.ensures;
  others = none_other c.in_ok-pools.pools.items c.with_hasher-others.result.entries c.with_hasher-others.ensures.empty;
}
