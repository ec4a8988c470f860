use Rattle.std.proofs.Common.{◌≡◌, ◌++◌}
use Rattle.std.specs.List.{AllByRecursion}
use Rattle.rad_packet.specs.Attributes.{IsAttribute, of_kind}
use Rattle.rad_server.proofs.reply.copy_proxy_states.Given as goal

-- those that were copied and those that are left are all
abbrev pub invariant-loop-attribute : goal.invariant-loop-attribute
invariant-loop-attribute l = record {
  code : l.body.code ≡ l.fn.body.code;
  copied : l.body.attributes ++ of_kind 33 l.rest ≡ l.fn.body.attributes ++ of_kind 33 l.request.packet.attributes;
  each : AllByRecursion IsAttribute l.rest;
}
