use Rattle.std.proofs.Common.{arith}
use Rattle.std.specs.Prelude.{IsTrue}
use Rattle.std.proofs.lemmas.Grind.{common_steps}
use Rattle.rad_auth.specs.PasswordChecks.{fits_lane}
use Rattle.rad_auth.proofs.password_check.PasswordCheck.is_right_by.Goals as goal

pub returns-in-UserPassword : goal.returns-in-UserPassword
returns-in-UserPassword c =
    let one : IsTrue (fits_lane c.args.self.now) = grind (arith, common_steps) in
    let digest = rw c.in-UserPassword.is at (c.requires one) in
    rw c.in-UserPassword.is
    (c.password_right_by.ensures c.in-UserPassword.hidden.secret.now c.in-UserPassword.hidden.request_authenticator
    c.in-UserPassword.hidden.long digest)
