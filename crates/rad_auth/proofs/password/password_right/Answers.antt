use Rattle.std.proofs.Common.{List, ℕ, subst}
use Rattle.rad_auth.specs.PasswordBlocks.{AreBlockDigests}
use Rattle.rad_auth.proofs.password.password_right.Goals as goal

pub returns : goal.returns
returns c =
    let value : List ℕ = c.args.value.now in
    let ra : List ℕ = c.args.request_authenticator.now in
    c.is_opened.ensures c.args.secret.now ra c.told-request_authenticator
    (subst (λ secret. AreBlockDigests secret ra value c.block_digests-digests.result) c.octets.ensures.value
    c.block_digests-digests.ensures)
