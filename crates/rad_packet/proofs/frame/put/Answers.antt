use Rattle.std.proofs.Common.{ap, refl, ◌∙◌, ◌+◌, ◌-◌, length}
use Rattle.rad_packet.proofs.FrameLemmas.{part_written}
use borrow.Rule.Slice.PartMut.{put_mid}
use Rattle.rad_packet.proofs.frame.put.Goals as goal

pub returns-clause-whole : goal.returns-clause-whole
returns-clause-whole c =
    ap (put_mid c.args.at (c.args.at + length c.args.part.now - c.args.at) c.args.buffer.now) c.copy_from_slice.ensures.after
    ∙ part_written c.args.at (c.args.at + length c.args.part.now) c.args.buffer.now c.args.part.now refl
