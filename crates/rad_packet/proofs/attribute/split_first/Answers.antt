use Rattle.std.proofs.Common.{arith}
use Rattle.rad_packet.proofs.AttributeLemmas.{first-nil, first-at}
use Rattle.rad_packet.proofs.attribute.split_first.Goals as goal

pub returns-in_default : goal.returns-in_default
returns-in_default c = first-nil c.args.octets.now c.requires (omega arith)

pub split_at-requires : goal.split_at-requires
split_at-requires c = (first-at c.args.octets.now (omega arith) c.requires).1

pub split_at-requires-2 : goal.split_at-requires-2
split_at-requires-2 c =
    let f = first-at c.args.octets.now (omega arith) c.requires in
    omega (arith, f.0, c.split_at.ensures.front_len)

pub returns : goal.returns
returns c =
    rw (c.split_at-2.ensures.back, c.split_at.ensures.front, c.split_at.ensures.back)
    ((first-at c.args.octets.now (omega arith) c.requires).2)
