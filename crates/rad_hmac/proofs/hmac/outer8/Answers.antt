use Rattle.std.proofs.Common.{ℕ, List, [], ◌++◌}
use Rattle.md5.specs.Md5.{md5}
use Rattle.rad_hmac.proofs.LaneLemmas.{zipped_lanes}
use Rattle.rad_hmac.proofs.hmac.outer8.Goals as goal

pub returns : goal.returns
returns c =
    rw (
      c.digest8.ensures,
      c.after_pad.ensures,
      c.after_pad-2.ensures,
      c.after_pad-3.ensures,
      c.after_pad-4.ensures,
      c.after_pad-5.ensures,
      c.after_pad-6.ensures,
      c.after_pad-7.ensures,
      c.after_pad-8.ensures,
    )
    (zipped_lanes (λ (pad digest : List ℕ). md5 (pad ++ digest)) c.args.pads.now c.args.inner.now [] [] [] [] [] [] [] [] [] [] []
    [] [] [] [] [] c.told-pads c.told-inner)
