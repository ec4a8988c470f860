-- Books: a server, the server that it began as, and what was asked of it in between.
use Rattle.std.specs.Prelude.{List}
use Rattle.rad_server.specs.Servers.{Server}
use Rattle.rad_server.specs.declared.entry.Entry.{Entry}

pub record Book : Type 0 where
  pub opening : Server
  pub history : List Entry
  pub server : Server
