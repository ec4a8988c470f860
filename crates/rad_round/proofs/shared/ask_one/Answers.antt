use Rattle.rad_round.proofs.ShareLemmas.{asked_in, asked_ok}
use Rattle.rad_round.proofs.shared.ask_one.Goals as goal

pub returns-clause-asked : goal.returns-clause-asked
returns-clause-asked g c =
    asked_in c.args.batch.now c.args.lane c.in_ok-ask.ask c.ok.result c.in_ok-ask.ensures
    (asked_ok _ c.exchange.result c.ok.result c.ok.ensures.value c.exchange.ensures.asked)
    (asked_ok _ c.exchange.result c.ok.result c.ok.ensures.value c.exchange.ensures.sealable)
