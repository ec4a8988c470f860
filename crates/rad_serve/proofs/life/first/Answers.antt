use Rattle.std.proofs.Common.{◌≡◌, IfOk, subst}
use Rattle.rad_server.specs.Servers.{Server}
use Rattle.rad_serve.specs.Lives.{carried_server}
use Rattle.rad_serve.proofs.LifeLemmas.{is_fresh}
use Rattle.rad_serve.proofs.life.first.Goals as goal

pub returns-clause-fresh : goal.returns-clause-fresh
returns-clause-fresh g c =
    let config = c.args.given.config.now in
    subst (λ (before : Server). IfOk c.begin.result (λ life. life.service ≡ carried_server config before))
    (is_fresh config c.in_ok-before.before c.in_ok-before.ensures.configuration c.in_ok-before.ensures.state)
    c.begin.ensures.carried
