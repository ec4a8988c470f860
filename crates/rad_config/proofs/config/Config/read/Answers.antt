use Rattle.std.proofs.Common.{rules}
use Rattle.rad_auth.specs.Clients.{clients_max}
use Rattle.rad_config_fault.specs.declared.config_fault.Part.TheVariants as parts
use Rattle.rad_config.specs.Configurations.{client_in, share_in}
use Rattle.rad_config.proofs.EntryLemmas.{same_lengths}
use Rattle.rad_config.proofs.PoolLemmas.{apart}
use Rattle.rad_config.proofs.config.Config.read.Goals as goal

pub invariant_of-result : goal.invariant_of-result
invariant_of-result c = record {
  window = c.in_ok-spans.ensures.window;
  hold = c.in_ok-spans.ensures.hold;
  stale = c.in_ok-spans.ensures.stale;
  shares = c.in_ok-shares.ensures.range;
  share_each = same_lengths parts.Client clients_max client_in share_in _ c.in_ok-clients.clients c.in_ok-shares.shares.items
      c.in_ok-clients.ensures c.in_ok-shares.ensures.read;
  pool_count = c.in_ok-pools.ensures.few;
  pools = c.in_ok-pools.ensures.range;
  apart = apart c.in_ok-pools.pools.items (search rules);
  names = search rules;
  user_count = search rules;
  users = search rules;
}
