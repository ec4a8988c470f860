-- Generations: what a server keeps, in parts.
use Rattle.std.specs.Prelude.{◌≡◌, ◌<◌, ◌⊎◌, ℕ, suc, List, [], Option, Some, None, Ok, ◌∷◌, Bool, true, false}
use Rattle.rad_config.specs.Configurations.{Configuration, configuration_of_octets}
use Rattle.rad_server.specs.Lawful.{IsLawful}
use Rattle.rad_server.specs.Servers.{Server}
use Rattle.rad_server.specs.States.{opening}
use Rattle.sqlite_trees.specs.Tree.{Trees}
use Rattle.rad_journal.specs.Rows.{entries_of, table}
use Rattle.rad_journal.specs.Stores.{LeavesOthers, others}
use Rattle.rad_journal.specs.declared.kept.Kept.{Kept}
use Rattle.rad_snapshot.specs.Snapshots.{IsSnapshotOf}
use Rattle.rad_state.specs.Fits.{Fits}
use Rattle.rad_state.specs.Metas.{meta_rows, meta_table}
use Rattle.rad_state.specs.declared.meta.Meta.{Meta}

-- a generation has a base, the server at which it begins, and what is kept since
pub record Generation : Type 0 where
  pub base : Server
  pub entries : List Kept

-- one that has just begun
abbrev pub just_begun : Server → Generation
just_begun server = record { base = server; entries = [] }

-- the server of a configuration, before the first request
abbrev pub fresh_server : Configuration → Server
fresh_server configuration = record { configuration = configuration; state = opening configuration }

-- a crash may leave these entries after the fresh server of a configuration
abbrev pub LeavesOf : Configuration → (List Kept → Type 0) → Generation → Type 0
LeavesOf configuration may_leave left = (left.base ≡ fresh_server configuration) × may_leave left.entries

-- ---- a generation in a file

-- the file says that its generation begins at this server: its meta has the text of the configuration, and its snapshot is the
-- state's
pub record Says (db : Trees) (base : Server) : Type 0 where
  pub meta : Meta
  pub held : db meta_table ≡ meta_rows (Some meta)
  pub configuration : configuration_of_octets meta.configuration ≡ Ok base.configuration
  pub lawful : IsLawful base.configuration base.state
  pub snapshot : IsSnapshotOf db base.state

-- a file says so of one server alone
abbrev pub OneBase : Type 0
OneBase = (db : Trees) (one other : Server) → Says db one → Says db other → one ≡ other

-- whether there is an entry
abbrev pub is_any : List Kept → Bool
is_any [] = false
is_any (entry ∷ rest) = true

-- the file holds a generation of this program's format, and of its rules unless there is no entry
pub record Holds (db : Trees) (generation : Generation) : Type 0 where
  pub says : Says db generation.base
  pub entries : entries_of (db table) ≡ generation.entries
  pub fits : Fits says.meta (is_any generation.entries)

-- a crash may leave a generation in a file
abbrev pub MayHold : (Trees → Type 0) → Generation → Type 0
MayHold recovers left = (db : Trees) × recovers db × Holds db left

-- whatever a crash leaves in a file says that its generation begins at this server, and at no other
pub record HasBase (recovers : Trees → Type 0) (base : Server) : Type 0 where
  pub db : Trees
  pub beside : LeavesOthers recovers (others db)
  pub says : Says db base
  pub fits : Fits says.meta true
  pub only : (other : Server) → Says db other → other ≡ base

-- ---- generations in the files of a folder

-- A crash may leave a generation in a file that was made after the one in use. Of the next one it is known what it may have; nobody
-- knows of any other, nor of the next one where that was let go of.
abbrev pub LeavesLater : {S : Type 0} → (ℕ → Type 0) → ℕ → (S → Trees → Type 0) → Option S → Generation → Type 0
LeavesLater has number recovers None left = (later : ℕ) × (number < later) × has later
LeavesLater has number recovers (Some next) left =
    (later : ℕ) × (number < later) × has later × (later ≡ suc number → MayHold (recovers next) left)

-- A crash may leave a generation in a folder that has these files: in the one in use, which has this number and this store, or in a
-- later one.
abbrev pub LeavesIn : {S : Type 0} → (ℕ → Type 0) → ℕ → (S → Trees → Type 0) → S → Option S → Generation → Type 0
LeavesIn has number recovers used next left =
    (has number × MayHold (recovers used) left) ⊎ LeavesLater has number recovers next left

-- the file in use is the newest, and its generation begins at this server, whose configuration is this one
pub record IsInUse (has : ℕ → Type 0) (number : ℕ) (recovers : Trees → Type 0) (configuration : Configuration)
    (base : Server) : Type 0 where
  pub there : has number
  pub newest : (later : ℕ) → number < later → ¬ has later
  pub has_base : HasBase recovers base
  pub same : base.configuration ≡ configuration
