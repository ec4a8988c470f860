use Rattle.rad_state.proofs.BaseLemmas.{says_one}
use Rattle.rad_state.proofs.state.bases_differ.Goals as goal

pub returns : goal.returns
returns c = says_one c.snapshots_differ.ensures
