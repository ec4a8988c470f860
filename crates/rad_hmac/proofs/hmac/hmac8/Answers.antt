use Rattle.std.proofs.Common.{ℕ, List, ◌++◌}
use Rattle.md5.specs.Md5.{md5}
use Rattle.rad_hmac.specs.Hmac.{Keyed, ipad, keyed_message, mac_under, opad, xor}
use Rattle.rad_hmac.proofs.LaneLemmas.{two_passes}
use Rattle.rad_hmac.proofs.hmac.hmac8.Goals as goal

pub returns : goal.returns
unfolding mac_under
returns c =
    rw (c.outer8.ensures, c.pads8-2.ensures, c.inner8-inner.ensures, c.pads8.ensures)
    (two_passes (λ (pad digest : List ℕ). md5 (pad ++ digest)) (λ (keyed : Keyed). xor keyed.0.now opad)
    (λ (pad : List ℕ) (keyed : Keyed). md5 (pad ++ keyed_message keyed)) (λ (keyed : Keyed). xor keyed.0.now ipad)
    c.args.messages.now)
