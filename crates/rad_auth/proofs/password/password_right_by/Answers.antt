use Rattle.std.proofs.Common.{List, ℕ, ap, ◌++◌, ◌∙◌, sym}
use Rattle.md5.specs.Md5.{md5}
use Rattle.rad_auth.specs.PasswordBlocks.{block_digest}
use Rattle.rad_auth.proofs.PasswordLemmas.{before_first, only_block}
use Rattle.rad_auth.proofs.password.password_right_by.Goals as goal

pub returns : goal.returns
returns c = λ secret ra sixteen made.
    let value : List ℕ = c.args.value.now in
    let first = made ∙ ap (λ (b : List ℕ). md5 (secret ++ b)) (sym (before_first ra value sixteen)) in
    c.is_opened.ensures secret ra sixteen
    (λ j lt. only_block c.alone.result (block_digest secret ra value) value c.requires (c.alone.ensures ∙ first) j)
