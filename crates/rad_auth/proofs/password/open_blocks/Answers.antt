use Rattle.std.proofs.Common.{◌≡◌, ◌≤◌, ◌+◌, ◌-◌, ◌*◌, ◌/◌, ◌++◌, List, ℕ, [], length, get_or, take, drop, ap, sym, ◌∙◌, refl}
use Rattle.std.proofs.Common.{subst, arith}
use Rattle.std.proofs.lemmas.List.{append-nil}
use Rattle.std.proofs.lemmas.Slice.{drop-put_mid}
use borrow.Rule.Slice.PartMut.{mid_len, same_len_mid}
use Rattle.md5.specs.Md5.{md5}
use Rattle.rad_auth.specs.PasswordBlocks.{block_before}
use Rattle.rad_auth.specs.Passwords.{IsRevealed}
use Rattle.rad_auth.proofs.PasswordLemmas.{opened, opened_more, reveals, before_first, before_next, whole_blocks, fits_room}
use Rattle.rad_auth.proofs.password.open_blocks.Goals as goal

pub blocks-2-init : goal.blocks-2-init
blocks-2-init c = record {
  long = c.told-text;
  text = λ secret ra sixteen digests.
      ap (λ n. opened secret (block_before ra c.args.value.now 0) n c.args.value.now) (omega arith)
      ∙ ap (λ (b : List ℕ). opened secret b (length c.args.value.now / 16) c.args.value.now)
      (before_first ra c.args.value.now sixteen);
  rest = refl;
}

pub blocks-2-preserved : goal.blocks-2-preserved
blocks-2-preserved c =
    let value : List ℕ = c.args.value.now in
    let at : ℕ = c.blocks-2.block * 16 in
    let fits : length value ≤ 128 = fits_room value c.requires in
    let room : at + 16 ≤ length c.blocks-2.text = omega (arith, c.blocks-2-test.true, c.blocks-2.invariant.long, fits) in
    let mid = mid_len at (at + 16) c.blocks-2.text room in
    record {
      long = same_len_mid _ _ c.blocks-2.text _ c.copy_from_slice.ensures.len ∙ c.blocks-2.invariant.long;
      text = λ secret ra sixteen digests.
          let padded : get_or c.args.digests.now c.blocks-2.block [] ≡ md5 (secret ++ block_before ra value c.blocks-2.block) =
          digests c.blocks-2.block (omega (arith, c.blocks-2-test.true, fits)) (omega (arith, c.blocks-2-test.true)) in
          rw (c.copy_from_slice.ensures.after, before_next ra value c.blocks-2.block sixteen)
          (opened_more _ _ _ _ _ _ _ _ _ _ (omega arith) c.blocks-2-test.true (omega arith)
          (omega (arith, c.blocks-2.invariant.long, fits)) c.xor-opened.ensures padded
          (c.blocks-2.invariant.text secret ra sixteen digests));
      rest =
          drop-put_mid at (at + 16 - at) c.blocks-2.text _ (length value) (omega (arith, c.blocks-2-test.true))
          (omega (arith, room)) (c.copy_from_slice.ensures.len ∙ mid)
          ∙ c.blocks-2.invariant.rest;
    }

pub returns-clause-revealed : goal.returns-clause-revealed
unfolding opened
returns-clause-revealed c = λ secret ra sixteen digests.
    let value : List ℕ = c.args.value.now in
    let n : ℕ = length value / 16 in
    let whole = whole_blocks value c.requires in
    let done : n - c.blocks-2.block ≡ 0 = omega (arith, c.blocks-2-test.false) in
    let end : c.blocks-2.block * 16 ≡ length value = omega (arith, whole, c.blocks-2-test.false, c.blocks-2.auto.block-end) in
    let before : List ℕ = block_before ra value c.blocks-2.block in
    let opened_is : take (length value) c.blocks-2.text ≡ opened secret ra n value =
    ap (λ k. take k c.blocks-2.text) (sym end)
    ∙ sym (append-nil (take (c.blocks-2.block * 16) c.blocks-2.text))
    ∙ ap (λ k. take (c.blocks-2.block * 16) c.blocks-2.text ++ opened secret before k (drop (c.blocks-2.block * 16) value))
    (sym done)
    ∙ c.blocks-2.invariant.text secret ra sixteen digests in
    subst (IsRevealed secret ra value) (sym opened_is) (reveals secret ra n value whole)
