use Rattle.std.proofs.Common.{ap, ◌∙◌, sym, arith}
use Rattle.std.specs.Prelude.{map}
use Rattle.rad_auth.specs.Admission.{lane_admission}
use Rattle.rad_auth.proofs.LaneLemmas.{eight_lanes}
use Rattle.rad_auth.proofs.admit.check8.Goals as goal

pub verdict_on_lane-requires : goal.verdict_on_lane-requires
verdict_on_lane-requires c = record {
  candidate = c.read_lane.ensures.candidate;
  digest = c.accounting_authenticators-digests.ensures 0 (omega arith);
  mac = c.message_authenticators-macs.ensures 0 (omega arith);
}

pub verdict_on_lane-requires-2 : goal.verdict_on_lane-requires-2
verdict_on_lane-requires-2 c = record {
  candidate = c.read_lane-2.ensures.candidate;
  digest = c.accounting_authenticators-digests.ensures 1 (omega arith);
  mac = c.message_authenticators-macs.ensures 1 (omega arith);
}

pub verdict_on_lane-requires-3 : goal.verdict_on_lane-requires-3
verdict_on_lane-requires-3 c = record {
  candidate = c.read_lane-3.ensures.candidate;
  digest = c.accounting_authenticators-digests.ensures 2 (omega arith);
  mac = c.message_authenticators-macs.ensures 2 (omega arith);
}

pub verdict_on_lane-requires-4 : goal.verdict_on_lane-requires-4
verdict_on_lane-requires-4 c = record {
  candidate = c.read_lane-4.ensures.candidate;
  digest = c.accounting_authenticators-digests.ensures 3 (omega arith);
  mac = c.message_authenticators-macs.ensures 3 (omega arith);
}

pub verdict_on_lane-requires-5 : goal.verdict_on_lane-requires-5
verdict_on_lane-requires-5 c = record {
  candidate = c.read_lane-5.ensures.candidate;
  digest = c.accounting_authenticators-digests.ensures 4 (omega arith);
  mac = c.message_authenticators-macs.ensures 4 (omega arith);
}

pub verdict_on_lane-requires-6 : goal.verdict_on_lane-requires-6
verdict_on_lane-requires-6 c = record {
  candidate = c.read_lane-6.ensures.candidate;
  digest = c.accounting_authenticators-digests.ensures 5 (omega arith);
  mac = c.message_authenticators-macs.ensures 5 (omega arith);
}

pub verdict_on_lane-requires-7 : goal.verdict_on_lane-requires-7
verdict_on_lane-requires-7 c = record {
  candidate = c.read_lane-7.ensures.candidate;
  digest = c.accounting_authenticators-digests.ensures 6 (omega arith);
  mac = c.message_authenticators-macs.ensures 6 (omega arith);
}

pub verdict_on_lane-requires-8 : goal.verdict_on_lane-requires-8
verdict_on_lane-requires-8 c = record {
  candidate = c.read_lane-8.ensures.candidate;
  digest = c.accounting_authenticators-digests.ensures 7 (omega arith);
  mac = c.message_authenticators-macs.ensures 7 (omega arith);
}

pub returns-clause-verdicts : goal.returns-clause-verdicts
returns-clause-verdicts c =
    rw (
      c.verdict_on_lane.ensures.verdict ∙ sym c.read_lane.ensures.verdict,
      c.verdict_on_lane-2.ensures.verdict ∙ sym c.read_lane-2.ensures.verdict,
      c.verdict_on_lane-3.ensures.verdict ∙ sym c.read_lane-3.ensures.verdict,
      c.verdict_on_lane-4.ensures.verdict ∙ sym c.read_lane-4.ensures.verdict,
      c.verdict_on_lane-5.ensures.verdict ∙ sym c.read_lane-5.ensures.verdict,
      c.verdict_on_lane-6.ensures.verdict ∙ sym c.read_lane-6.ensures.verdict,
      c.verdict_on_lane-7.ensures.verdict ∙ sym c.read_lane-7.ensures.verdict,
      c.verdict_on_lane-8.ensures.verdict ∙ sym c.read_lane-8.ensures.verdict,
    )
    (ap (map (lane_admission c.args.clients.now)) (eight_lanes c.args.arrivals.now _ _ _ _ _ _ _ _ c.told-arrivals))
