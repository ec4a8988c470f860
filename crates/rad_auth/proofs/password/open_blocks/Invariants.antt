use Rattle.std.proofs.Common.{◌≡◌, ◌-◌, ◌*◌, ◌/◌, ◌++◌, List, ℕ, length, take, drop}
use Rattle.rad_auth.specs.PasswordBlocks.{AreBlockDigests, block_before}
use Rattle.rad_auth.proofs.PasswordLemmas.{opened}
use Rattle.rad_auth.proofs.password.open_blocks.Given as goal

-- the blocks so far, and what those that are left open as
abbrev pub invariant-blocks-2 : goal.invariant-blocks-2
invariant-blocks-2 l = record {
  long : length l.text ≡ 128;
  text : (secret request_authenticator : List ℕ) → length request_authenticator ≡ 16
      → AreBlockDigests secret request_authenticator l.value l.digests
      → take (l.block * 16) l.text ++ opened secret (block_before request_authenticator l.value l.block)
      (length l.value / 16 - l.block) (drop (l.block * 16) l.value)
      ≡ opened secret request_authenticator (length l.value / 16) l.value;
  rest : drop (length l.value) l.text ≡ drop (length l.value) l.fn.text;
}
