use Rattle.std.proofs.Common.{ap}
use Rattle.std.specs.Prelude.{map}
use Rattle.rad_auth.specs.ReplyLanes.{lane_header}
use Rattle.rad_auth.proofs.LaneLemmas.{eight_lanes}
use Rattle.rad_auth.proofs.reply_authenticators.headers.Goals as goal

pub returns : goal.returns
returns c =
    rw (
      c.lane_header.ensures,
      c.lane_header-2.ensures,
      c.lane_header-3.ensures,
      c.lane_header-4.ensures,
      c.lane_header-5.ensures,
      c.lane_header-6.ensures,
      c.lane_header-7.ensures,
      c.lane_header-8.ensures,
    )
    (ap (map lane_header) (eight_lanes c.args.jobs.now _ _ _ _ _ _ _ _ c.told-jobs))
