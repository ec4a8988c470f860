-- Services: which server a service has.
use Rattle.std.specs.Prelude.{Option, Some, None}
use Rattle.rad_desk.specs.Desks.{some_server}
use Rattle.rad_server.specs.Servers.{Server}

-- the server; another one while a round has it
abbrev pub server_of : Option Server → Server
server_of (Some server) = server
server_of None = some_server
