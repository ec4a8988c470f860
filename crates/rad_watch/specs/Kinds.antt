-- Kinds: the names of events.
use Rattle.std.specs.Prelude.{ℕ, List, codes}
use Rattle.rad_watch.specs.declared.kind.Kind.{Kind}
use Rattle.rad_watch.specs.declared.kind.Kind.TheVariants.{Discard, Busy, NoMemory, Lost, Failure, Reject, Accept, Challenge, Start}
use Rattle.rad_watch.specs.declared.kind.Kind.TheVariants.{Stop, Interim, On, Off, Accounting, Status, Expire, LeftOut}

-- the name by which lines call an event
abbrev pub kind_name : Kind → List ℕ
kind_name Discard = codes "discard"
kind_name Busy = codes "busy"
kind_name NoMemory = codes "nomemory"
kind_name Lost = codes "lost"
kind_name Failure = codes "failure"
kind_name Reject = codes "reject"
kind_name Accept = codes "accept"
kind_name Challenge = codes "challenge"
kind_name Start = codes "start"
kind_name Stop = codes "stop"
kind_name Interim = codes "interim"
kind_name On = codes "on"
kind_name Off = codes "off"
kind_name Accounting = codes "accounting"
kind_name Status = codes "status"
kind_name Expire = codes "expire"
kind_name LeftOut = codes "left_out"
