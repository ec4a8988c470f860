-- What ports over memory keep of what passed.
use Rattle.std.specs.Prelude.{List, map, Option, Some, None, Vec}
use Rattle.std.specs.declared.alloc.Global.{Global}
use Rattle.rad_shell.specs.Passages.{Empty, Fault, In, Now, Out, Passage}
use Rattle.rad_shell.specs.declared.memory_ports.Passed.{Passed}
use Rattle.rad_shell.specs.declared.memory_ports.Passed.TheVariants as kept

abbrev pub passage : Passed → Passage
passage (kept.In datagram) = In (record {
  datagram = record { source = datagram.address; port = datagram.port; door = datagram.door; octets = datagram.octets.items };
  moment = datagram.moment;
})
passage (kept.Out datagram) =
    Out (record { door = datagram.door; address = datagram.address; port = datagram.port; octets = datagram.octets.items })
passage kept.Empty = Empty
passage (kept.Now moment) = Now moment
passage kept.Fault = Fault

-- all of it, while there is memory for it
abbrev pub kept_passages : Option (Vec Passed Global) → Option (List Passage)
kept_passages None = None
kept_passages (Some kept) = Some (map passage kept.items)
