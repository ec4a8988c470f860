use Rattle.std.proofs.Common.{ap}
use Rattle.std.specs.Prelude.{map}
use Rattle.rad_auth.proofs.LaneLemmas.{eight_lanes}
use Rattle.rad_server.specs.Prepared.{prepared_in}
use Rattle.rad_server.proofs.prepared.prepare8.Goals as goal

pub returns : goal.returns
returns c =
    rw (
      c.prepared_in.ensures,
      c.prepared_in-2.ensures,
      c.prepared_in-3.ensures,
      c.prepared_in-4.ensures,
      c.prepared_in-5.ensures,
      c.prepared_in-6.ensures,
      c.prepared_in-7.ensures,
      c.prepared_in-8.ensures,
    )
    (ap (map (prepared_in c.args.config.now)) (eight_lanes c.args.verdicts.now _ _ _ _ _ _ _ _ c.requires.lanes))
