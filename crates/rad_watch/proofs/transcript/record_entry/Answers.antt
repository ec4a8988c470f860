use Rattle.rad_watch.proofs.RecordingLemmas.{found_entry}
use Rattle.rad_watch.proofs.transcript.record_entry.Goals as goal

pub returns-in_ok-push_line : goal.returns-in_ok-push_line
returns-in_ok-push_line c =
    found_entry c.args.text.now.items c.push_line.new.text.items c.args.arrivals.now c.args.entry.now _ _ c.if-number-arrivals.true
    c.draw_recorded.ensures c.in_ok-push_line.ensures
