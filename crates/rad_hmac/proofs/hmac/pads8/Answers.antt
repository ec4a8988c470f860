use Rattle.std.proofs.Common.{ap, replicate}
use Rattle.std.specs.Prelude.{map}
use Rattle.rad_hmac.specs.Hmac.{Keyed, xor}
use Rattle.rad_hmac.proofs.LaneLemmas.{lanes_read}
use Rattle.rad_hmac.proofs.hmac.pads8.Goals as goal

pub returns : goal.returns
returns c =
    rw (
      c.xor.ensures,
      c.xor-2.ensures,
      c.xor-3.ensures,
      c.xor-4.ensures,
      c.xor-5.ensures,
      c.xor-6.ensures,
      c.xor-7.ensures,
      c.xor-8.ensures,
    )
    (ap (map (λ (keyed : Keyed). xor keyed.0.now (replicate 64 c.args.pad)))
    (lanes_read c.args.messages.now _ _ _ _ _ _ _ _ c.type_inv.messages))
