use Rattle.rad_replay.proofs.TranscriptLemmas.{takes_more}
use Rattle.rad_replay.proofs.replay.write_line.Goals as goal

pub writes-preserved : goal.writes-preserved
writes-preserved g c =
    let inv = c.writes.invariant in
    takes_more c.args.line.now inv.0 c.writes.rest.now c.in-Ok.count _ _ _ inv.2 inv.1 c.in-Ok.ensures.bytes
