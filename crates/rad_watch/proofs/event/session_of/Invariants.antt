use Rattle.std.proofs.Common.{◌≡◌}
use Rattle.rad_server.specs.Accounting.{class_number}
use Rattle.rad_watch.proofs.event.session_of.Given as goal

-- no attribute so far is the Class of a session
abbrev pub invariant-loop-attribute : goal.invariant-loop-attribute
invariant-loop-attribute l = class_number l.rest ≡ class_number l.packet.attributes
