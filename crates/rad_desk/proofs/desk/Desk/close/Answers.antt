use Rattle.std.proofs.Common.{rules, ◌≡◌, IfOk, subst}
use Rattle.rad_server.specs.Runs.{IsHistory}
use Rattle.rad_desk.proofs.desk.Desk.close.Goals as goal

pub returns-clause-run : goal.returns-clause-run
returns-clause-run g c =
    let equal : g.L.Opened.opening ≡ c.args.server.now = search rules in
    subst (λ opening. IfOk c.close.result (λ closed. IsHistory opening closed.history.items closed.server)) equal
    c.close.ensures.run
