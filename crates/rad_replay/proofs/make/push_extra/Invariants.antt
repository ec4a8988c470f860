use Rattle.std.proofs.Common.{◌≡◌}
use Rattle.std.specs.List.{AllByRecursion}
use Rattle.rad_packet.specs.Attributes.{IsAttribute}
use Rattle.rad_replay.proofs.make.push_extra.Given as goal

abbrev pub invariant-loop-attribute : goal.invariant-loop-attribute
invariant-loop-attribute l = record {
  code : l.body.code ≡ l.fn.body.code;
  each : AllByRecursion IsAttribute l.rest;
}
