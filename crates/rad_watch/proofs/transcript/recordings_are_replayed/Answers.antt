use Rattle.rad_watch.proofs.ReplayedLemmas.{recordings_are_replayed}
use Rattle.rad_watch.proofs.transcript.recordings_are_replayed.Goals as goal

pub returns : goal.returns
returns c = recordings_are_replayed
