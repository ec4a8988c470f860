use Rattle.std.proofs.Common.{◌≡◌, ◌∙◌, ap}
use Rattle.rad_log.proofs.TakenLemmas.{published_is}
use Rattle.rad_log.specs.Logs.{newer, taking}
use Rattle.rad_round.specs.Works.{entries_in}
use Rattle.rad_round.proofs.shared.Shared.take.Goals as goal

pub invariant_of-self : goal.invariant_of-self
invariant_of-self g c =
    let said : c.publish.result ≡ taking c.batch.inside.number (newer c.self.inside.keeper c.ask.new.locked.history) =
    c.publish.ensures.taking ∙ ap (λ h. taking c.batch.inside.number (newer c.self.inside.keeper h)) c.history.ensures in
    (published_is c.self.inside.keeper c.publish.new.self c.publish.result c.batch.inside.number c.self.inside.locked.history
    c.ask.new.locked.history
    (entries_in c.ask.new.asked) c.self.invariant c.ask.ensures.history c.publish.ensures.published said).1
