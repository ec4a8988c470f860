use Rattle.rad_md5.proofs.LaneLemmas.{shifts_rotate}
use Rattle.rad_md5.proofs.lanes.rotate_left.Goals as goal

pub returns : goal.returns
returns c = shifts_rotate c.args.s c.requires.0 c.requires.1 c.args.x c.fits-x.0
