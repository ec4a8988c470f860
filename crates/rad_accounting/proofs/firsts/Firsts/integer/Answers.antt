use Rattle.std.proofs.Common.{sym, ◌∙◌}
use Rattle.rad_accounting.proofs.FirstLemmas.{first-is-integer, no-integer}
use Rattle.rad_accounting.proofs.firsts.Firsts.integer.Goals as goal

pub returns-in_err-first : goal.returns-in_err-first
returns-in_err-first c =
    c.from_residual.ensures ∙ sym (no-integer c.args.kind c.args.self.now.packet.now.attributes (sym c.in_err-first.ensures))

pub returns-in-Some : goal.returns-in-Some
returns-in-Some c = sym (first-is-integer c.args.kind c.in-Some.integer c.args.self.now.packet.now.attributes
    c.in_ok-first.first.now (sym c.in_ok-first.ensures) (sym c.in-Some.ensures))
