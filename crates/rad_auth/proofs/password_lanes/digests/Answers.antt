use Rattle.std.proofs.Common.{[], get_or, arith}
use Rattle.std.specs.Prelude.{IfSome}
use Rattle.rad_auth.specs.PasswordChecks.{IsLaneDigest}
use Rattle.rad_auth.proofs.LaneLemmas.{each_lane, lane_digest}
use Rattle.rad_auth.proofs.password_lanes.digests.Goals as goal

pub returns : goal.returns
returns c =
    let made = c.digest_some.ensures in
    λ j lt other. each_lane c.args.checks.now (λ i lane. IfSome lane (IsLaneDigest (get_or c.digest_some.result i []))) other
    _ _ _ _ _ _ _ _ c.told-checks
    (lane_digest _ _ _ _ c.lane_text.ensures c.uses_lane.ensures (made 0 (omega arith)))
    (lane_digest _ _ _ _ c.lane_text-2.ensures c.uses_lane-2.ensures (made 1 (omega arith)))
    (lane_digest _ _ _ _ c.lane_text-3.ensures c.uses_lane-3.ensures (made 2 (omega arith)))
    (lane_digest _ _ _ _ c.lane_text-4.ensures c.uses_lane-4.ensures (made 3 (omega arith)))
    (lane_digest _ _ _ _ c.lane_text-5.ensures c.uses_lane-5.ensures (made 4 (omega arith)))
    (lane_digest _ _ _ _ c.lane_text-6.ensures c.uses_lane-6.ensures (made 5 (omega arith)))
    (lane_digest _ _ _ _ c.lane_text-7.ensures c.uses_lane-7.ensures (made 6 (omega arith)))
    (lane_digest _ _ _ _ c.lane_text-8.ensures c.uses_lane-8.ensures (made 7 (omega arith))) j lt
