use Rattle.std.proofs.Common.{ap, ◌++◌, length}
use Rattle.std.proofs.lemmas.List.{drop-replicate}
use Rattle.rad_auth.proofs.password.padded.Goals as goal

pub returns : goal.returns
returns c = rw c.copy_from_slice.ensures.after
    (ap (λ zeros. c.args.password.now ++ zeros) (drop-replicate (length c.args.password.now) 128 0))
