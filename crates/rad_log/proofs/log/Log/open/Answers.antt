use Rattle.rad_log.proofs.StepLemmas.{begins}
use Rattle.rad_log.proofs.log.Log.open.Goals as goal

pub of_words-requires : goal.of_words-requires
of_words-requires g c = begins
