use Rattle.std.proofs.Common.{List, ℕ, subst}
use Rattle.rad_auth.specs.PasswordBlocks.{AreBlockDigests}
use Rattle.rad_auth.proofs.password.reveal.Goals as goal

pub returns-clause-revealed : goal.returns-clause-revealed
returns-clause-revealed c =
    let value : List ℕ = c.args.value.now in
    let ra : List ℕ = c.args.request_authenticator.now in
    c.open_blocks.ensures.revealed c.args.secret.now ra c.told-request_authenticator
    (subst (λ secret. AreBlockDigests secret ra value c.block_digests-digests.result) c.octets.ensures.value
    c.block_digests-digests.ensures)
