use Rattle.std.proofs.Common.{◌≡◌, ◌++◌, length}
use Rattle.std.specs.Prelude.{is_some}
use Rattle.rad_packet.specs.Attributes.{attributes_octets, attributes_of}
use Rattle.rad_snapshot.proofs.body.push_all.Given as goal

-- the octets that are left are attributes where all of them are, and the others were pushed
abbrev pub invariant-loop-rest : goal.invariant-loop-rest
invariant-loop-rest l =
    record {
      left : is_some (attributes_of l.rest) ≡ is_some (attributes_of l.octets);
      code : l.body.code ≡ l.fn.body.code;
      so_far : attributes_octets l.body.attributes ++ l.rest ≡ attributes_octets l.fn.body.attributes ++ l.octets;
    }

abbrev pub decreases-loop-rest : goal.decreases-loop-rest
decreases-loop-rest l = length l.rest
