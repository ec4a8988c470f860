-- Desks: what a desk keeps under its lock.
use Rattle.std.specs.Prelude.{◌≡◌, ℕ, Bool, List, [], ◌∷◌, ◌++◌, length, None}
use Rattle.rad_server.specs.Runs.{IsHistory, IsMarkedHistory}
use Rattle.rad_config.specs.Configurations.{Configuration}
use Rattle.rad_server.specs.Servers.{Server}
use Rattle.rad_server.specs.States.{opening}
use Rattle.rad_server.specs.declared.entry.Entry.{Entry}
use Rattle.rad_desk.specs.declared.receipt.Receipt.{Receipt}

-- the most passes of a desk
abbrev pub passes_max : ℕ
passes_max = 8

-- a blank is that of the ledger: it has the ledger's name and its parts, one for each pass
pub record IsBlankOf (blank_name blank_parts name parts passes : ℕ) : Type 0 where
  pub same_name : blank_name ≡ name
  pub same_parts : blank_parts ≡ parts
  pub part_each : blank_parts ≡ passes

-- the history leads from the opening to the server and has these marks, the ledger's total is its length, and the share that is
-- left has no part
pub record IsConsistent (opening : Server) (history : List Entry) (marks : List Bool) (server : Server)
    (total parts amount : ℕ) : Type 0 where
  pub run : IsHistory opening history server
  pub marked : IsMarkedHistory opening history marks server
  pub counted : total ≡ length history
  pub no_part : parts ≡ 0
  pub no_amount : amount ≡ 0

-- a history is longer by the entry of a receipt, which is at the receipt's place
pub record Appends (before after : List Entry) (receipt : Receipt) : Type 0 where
  pub appended : after ≡ before ++ receipt.entry ∷ []
  pub place : receipt.place ≡ length before

-- some server: the opening of `Brand`, until a call names another
abbrev pub some_server : Server
some_server =
    let configuration : Configuration =
    record { window = 0; hold = 0; stale = None; clients = []; shares = []; pools = []; users = [] } in
    record { configuration = configuration; state = opening configuration }
