use Rattle.rad_snapshot.proofs.SnapshotLemmas.{one_state}
use Rattle.rad_snapshot.proofs.laws.snapshots_differ.Goals as goal

pub returns : goal.returns
returns c = one_state c.rows_rebuild.ensures.rebuilt
