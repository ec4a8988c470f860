use Rattle.std.proofs.Common.{◌++◌, List, ℕ, [], get_or, ap, sym, ◌∙◌}
use Rattle.std.proofs.lemmas.List.{append-nil}
use Rattle.md5.specs.Md5.{md5}
use Rattle.rad_md5.specs.Pieces.{message}
use Rattle.rad_md5.proofs.LaneLemmas.{below_eight}
use Rattle.rad_auth.specs.PasswordBlocks.{block_digest}
use Rattle.rad_auth.proofs.PasswordLemmas.{before_first, only_block, pad_next}
use Rattle.rad_auth.proofs.password.block_digests.Goals as goal

pub returns-then-value-eq-BLOCK_LEN : goal.returns-then-value-eq-BLOCK_LEN
returns-then-value-eq-BLOCK_LEN c =
    let ra : List ℕ = c.args.request_authenticator.now in
    let secret : List ℕ = c.args.secret.now in
    let value : List ℕ = c.args.value.now in
    let first = c.block_digest.ensures
    ∙ ap (λ (b : List ℕ). md5 (secret ++ b)) (sym (before_first ra value c.told-request_authenticator)) in
    λ j lt. only_block c.alone.result (block_digest secret ra value) value c.if-value-eq-BLOCK_LEN.true (c.alone.ensures ∙ first) j

pub returns : goal.returns
returns c =
    let ra : List ℕ = c.args.request_authenticator.now in
    let secret : List ℕ = c.args.secret.now in
    let value : List ℕ = c.args.value.now in
    let long = c.told-request_authenticator in
    let made = λ (j : ℕ). ap (λ (ds : List (List ℕ)). get_or ds j []) c.digest8.ensures in
    below_eight _
    (λ within. made 0 ∙ ap (λ (p : List (List ℕ)). md5 (message p)) c.of.ensures
    ∙ ap (λ (b : List ℕ). md5 (secret ++ b)) (append-nil ra ∙ sym (before_first ra value long)))
    (λ within. pad_next secret ra value _ _ 0 long (made 1) (c.digested_text.ensures within))
    (λ within. pad_next secret ra value _ _ 1 long (made 2) (c.digested_text-2.ensures within))
    (λ within. pad_next secret ra value _ _ 2 long (made 3) (c.digested_text-3.ensures within))
    (λ within. pad_next secret ra value _ _ 3 long (made 4) (c.digested_text-4.ensures within))
    (λ within. pad_next secret ra value _ _ 4 long (made 5) (c.digested_text-5.ensures within))
    (λ within. pad_next secret ra value _ _ 5 long (made 6) (c.digested_text-6.ensures within))
    (λ within. pad_next secret ra value _ _ 6 long (made 7) (c.digested_text-7.ensures within))
