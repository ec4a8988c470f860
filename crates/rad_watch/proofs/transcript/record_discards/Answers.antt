use Rattle.std.proofs.Common.{arith}
use Rattle.rad_watch.proofs.RecordingLemmas.{none_discarded}
use Rattle.rad_watch.proofs.transcript.record_discards.Goals as goal

pub returns : goal.returns
returns c =
    none_discarded c.loop-i.text.items _ c.args.arrivals.now c.args.outcomes.now c.loop-i.i
    (omega (arith, c.loop-i-test.false, c.loop-i.auto.i-end)) c.loop-i.invariant
