use Rattle.std.proofs.Common.{Some, option_copied, refl, sym, ap, ◌∙◌}
use Rattle.rad_auth.specs.PasswordChecks.{is_right_in}
use Rattle.rad_server.proofs.DecisionLemmas.{answer_is, denied_is, logged_in, password_is}
use Rattle.rad_server.proofs.inquiry.Login.rule.Goals.{in_default-user-via-in-Some-user+else-is_right}
use Rattle.rad_server.proofs.inquiry.Login.rule.Goals.{in_default-user-via-in_default-user}
use Rattle.rad_server.proofs.inquiry.Login.rule.Goals as goal

pub returns-in-Some : goal.returns-in-Some
returns-in-Some c = λ configuration request ranges door known.
    answer_is configuration request c.args.self _ ranges door known (sym known.state ∙ ap option_copied c.in-Some.is) refl
    c.requires

pub returns-in-Some-user : goal.returns-in-Some-user
returns-in-Some-user c = λ configuration request ranges door known.
    password_is configuration request c.args.self c.in-Some-user.user door known
    (sym known.state ∙ ap option_copied c.in_default.is) c.in-Some-user.is
    (sym c.requires ∙ c.if-is_right.true)

pub returns-in_default-user : goal.returns-in_default-user
returns-in_default-user c = λ configuration request ranges door known.
    rw (c.denied.ensures)
    (denied_is configuration request c.args.self door known (sym known.state ∙ ap option_copied c.in_default.is)
    (elim c.in_default-user.branch [
      | in_default-user-via-in-Some-user+else-is_right w ↦
          ap (λ user. logged_in user (is_right_in c.args.self.check)) w.in-Some-user.is
          ∙ ap (logged_in (Some w.in-Some-user.user)) (sym c.requires ∙ w.if-is_right.false)
      | in_default-user-via-in_default-user w ↦ ap (λ user. logged_in user (is_right_in c.args.self.check)) w.in_default-user.is
    ]))
