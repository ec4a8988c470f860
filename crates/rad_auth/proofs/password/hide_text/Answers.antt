use Rattle.std.proofs.Common.{◌≡◌, ◌-◌, ◌*◌, ◌/◌, ◌++◌, ℕ, length, take, drop, ap, sym, ◌∙◌, refl, arith}
use Rattle.std.proofs.lemmas.List.{append-nil, take_all}
use borrow.Rule.Slice.PartMut.{same_len_mid}
use Rattle.rad_auth.proofs.PasswordLemmas.{hidden, hidden_more}
use Rattle.rad_auth.proofs.password.hide_text.Goals as goal

pub blocks-2-init : goal.blocks-2-init
unfolding hidden
blocks-2-init c = record {
  long = refl;
  text = ap (λ n. hidden c.args.secret.now c.args.request_authenticator.now n c.args.text.now) (omega (arith, c.requires));
}

pub blocks-2-preserved : goal.blocks-2-preserved
blocks-2-preserved c = record {
  long = same_len_mid _ _ c.blocks-2.text _ c.copy_from_slice.ensures.len ∙ c.blocks-2.invariant.long;
  text = rw c.copy_from_slice.ensures.after
      (hidden_more _ _ _ _ _ _ _ _ _ (omega arith) c.blocks-2-test.true (omega (arith, c.blocks-2.invariant.long))
      c.xor-hidden.ensures c.block_digest.ensures c.blocks-2.invariant.text);
}

pub returns : goal.returns
unfolding hidden
returns c =
    let n : ℕ = length c.args.text.now / 16 in
    let done : n - c.blocks-2.block ≡ 0 = omega (arith, c.blocks-2-test.false) in
    let whole : take (c.blocks-2.block * 16) c.blocks-2.text ≡ c.blocks-2.text =
    take_all (c.blocks-2.block * 16) c.blocks-2.text
    (omega (arith, c.blocks-2-test.false, c.requires, c.blocks-2.invariant.long)) in
    sym whole ∙ sym (append-nil (take (c.blocks-2.block * 16) c.blocks-2.text))
    ∙ ap (λ k. take (c.blocks-2.block * 16) c.blocks-2.text
    ++ hidden c.args.secret.now c.blocks-2.before k (drop (c.blocks-2.block * 16) c.blocks-2.text)) (sym done)
    ∙ c.blocks-2.invariant.text
