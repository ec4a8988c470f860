use Rattle.std.proofs.Common.{ℕ, List, [], ◌++◌}
use Rattle.md5.specs.Md5.{md5}
use Rattle.rad_hmac.specs.Hmac.{Keyed, keyed_message}
use Rattle.rad_hmac.proofs.LaneLemmas.{zipped_lanes}
use Rattle.rad_hmac.proofs.hmac.inner8.Goals as goal

pub returns : goal.returns
returns c =
    rw (
      c.digest8.ensures,
      c.after.ensures.message,
      c.after-2.ensures.message,
      c.after-3.ensures.message,
      c.after-4.ensures.message,
      c.after-5.ensures.message,
      c.after-6.ensures.message,
      c.after-7.ensures.message,
      c.after-8.ensures.message,
    )
    (zipped_lanes (λ (pad : List ℕ) (keyed : Keyed). md5 (pad ++ keyed_message keyed)) c.args.pads.now c.args.messages.now [] [] []
    [] [] [] [] []
    c.index-messages-0.result c.index-messages-1.result c.index-messages-2.result c.index-messages-3.result
    c.index-messages-4.result c.index-messages-5.result c.index-messages-6.result c.index-messages-7.result
    c.told-pads c.type_inv.messages)
