-- The base of the generation in a file, and what a crash leaves while the next one begins.
use Rattle.std.proofs.Common.{◌≡◌, ◌<◌, ◌⊎◌, inl, inr, ⊎_elim, ℕ, suc, List, [], Option, Some, None, Result, Ok, refl, sym, ap}
use Rattle.std.proofs.Common.{subst, ◌∙◌, arith, true, is_some, false}
use Rattle.rad_config.specs.Configurations.{Configuration, configuration_of_octets}
use Rattle.rad_server.specs.Lawful.{IsLawful}
use Rattle.rad_server.specs.Servers.{Server}
use Rattle.rad_server.specs.States.{State}
use Rattle.sqlite_trees.specs.Tree.{Trees}
use Rattle.sqlite_value.specs.Order.{Row}
use Rattle.rad_journal.specs.Rows.{entries_of, table}
use Rattle.rad_journal.specs.Stores.{MayLeave, others}
use Rattle.rad_journal.specs.declared.kept.Kept.{Kept}
use Rattle.rad_snapshot.specs.Snapshots.{OneSnapshotOneState}
use Rattle.rad_state.specs.Fits.{Fits}
use Rattle.rad_state.specs.Generations.{Generation, HasBase, Holds, IsInUse, LeavesIn, Says, just_begun}
use Rattle.rad_state.specs.InUse.{held_has_base, held_stays, in_use_leaves}
use Rattle.rad_state.specs.Metas.{meta_held, meta_rows, meta_table}
use Rattle.rad_state.specs.Stores.{Begins, LeavesBeginning}
use Rattle.rad_state.specs.declared.meta.Meta.{Meta}

-- ---- a file says of one server alone that its generation begins there

metas_same : (one other : Meta) → meta_rows (Some one) ≡ meta_rows (Some other) → one ≡ other
metas_same one other same = some_same (ap (λ (rows : List Row). meta_held rows) same)
  where
    some_same : ◌≡◌ {A = Option Meta} (Some one) (Some other) → one ≡ other
    some_same is = cc is

ok_same : {E : Type 0} (one other : Configuration) → ◌≡◌ {A = Result Configuration E} (Ok one) (Ok other) → one ≡ other
ok_same one other is = cc is

pub says_one : OneSnapshotOneState → (db : Trees) (one other : Server) → Says db one → Says db other → one ≡ other
says_one law db one other here there =
    let meta : here.meta ≡ there.meta = metas_same here.meta there.meta (sym here.held ∙ there.held) in
    let same : one.configuration ≡ other.configuration = ok_same one.configuration other.configuration
    (sym here.configuration ∙ ap (λ (m : Meta). configuration_of_octets m.configuration) meta ∙ there.configuration) in
    let lawful = subst (λ (k : Configuration). IsLawful k one.state) same here.lawful in
    let state : one.state ≡ other.state =
    law other.configuration db one.state other.state lawful there.lawful here.snapshot there.snapshot in
    ap (λ (k : Configuration). record one { configuration = k }) same ∙ ap (λ (s : State). record other { state = s }) state

begins_says : (db : Trees) (meta : Meta) (base : Server) → Begins db meta base.state
    → configuration_of_octets meta.configuration ≡ Ok base.configuration
    → IsLawful base.configuration base.state → Says db base
begins_says db meta base begins text lawful =
    record { meta = meta; held = begins.held; configuration = text; lawful = lawful; snapshot = begins.snapshot }

-- ---- the generation that begins at a server

module _ (law : OneSnapshotOneState) (meta : Meta) (server : Server)
    (text : configuration_of_octets meta.configuration ≡ Ok server.configuration)
    (lawful : IsLawful server.configuration server.state) where
  -- in a file that is settled
  pub has_base : Fits meta true → (db : Trees) (recovers : Trees → Type 0) → ((left : Trees) → recovers left → left ≡ db)
      → Begins db meta server.state
      → HasBase recovers server
  unfolding begins_says
  has_base fits db recovers settled begins = record {
    db = db;
    beside = λ left may. ap (λ (t : Trees). others t) (settled left may);
    says = begins_says db meta server begins text lawful;
    fits = fits;
    only = λ other says. says_one law db other server says (begins_says db meta server begins text lawful);
  }

  -- a file that may have it holds no other generation
  holds_it : (db : Trees) (left : Generation) → (db meta_table ≡ []) ⊎ Begins db meta server.state → Holds db left
      → left ≡ just_begun server
  holds_it db left outcome holds = ⊎_elim
      (λ none. absurd (no_meta holds.says.meta (sym none ∙ holds.says.held)))
      (λ begins.
      let base : left.base ≡ server = says_one law db left.base server holds.says (begins_says db meta server begins text lawful) in
      let entries : left.entries ≡ [] = sym holds.entries ∙ ap (λ (rows : List Row). entries_of rows) begins.none in
      ap (λ (b : Server). record left { base = b }) base
      ∙ ap (λ (l : List Kept). record (just_begun server) { entries = l }) entries)
      outcome
    where
      no_meta : (held : Meta) → [] ≡ meta_rows (Some held) → ⊥
      no_meta held is = absurd (cc is)

  -- what a crash leaves once it could not be begun, in a file that was made after the one in use
  pub failed_leaves : {S : Type 0} (old new : ℕ → Type 0) (number : ℕ) (recovers : S → Trees → Type 0) (used failed : S)
      (base : Server)
      → ((later : ℕ) → number < later → ¬ old later) → HasBase (recovers used) base
      → ((other : ℕ) → new other → old other ⊎ (other ≡ suc number))
      → LeavesBeginning (recovers failed) meta server.state → (left : Generation)
      → LeavesIn new number recovers used (Some failed) left
      → ((left.base ≡ base) × MayLeave (recovers used) left.entries) ⊎ (left ≡ just_begun server)
  failed_leaves old new number recovers used failed base newest has only begins left may = ⊎_elim
      (λ here. inl (held_has_base (recovers used) base has left here.1))
      (λ later. ⊎_elim
      (λ was. absurd (newest later.0 later.1 was))
      (λ next.
      let held = later.3 next in
      inr (holds_it held.0 left (begins held.0 held.1) held.2))
      (only later.0 later.2))
      may

-- what a crash leaves once it has begun
pub begun_leaves : {S : Type 0} (has : ℕ → Type 0) (number : ℕ) (recovers : S → Trees → Type 0) (used : S) (next : Option S)
    (db : Trees) (configuration : Configuration)
    (server : Server) → IsInUse has number (recovers used) configuration server → ((left : Trees) → recovers used left → left ≡ db)
    → db table ≡ []
    → (left : Generation) → LeavesIn has number recovers used next left → left ≡ just_begun server
begun_leaves has number recovers used next db configuration server in_use settled none left may =
    let (base, kept) = in_use_leaves has number recovers used next configuration server in_use left may in
    let entries : left.entries ≡ [] =
    kept.2 ∙ ap (λ (t : Trees). entries_of (t table)) (settled kept.0 kept.1)
    ∙ ap (λ (rows : List Row). entries_of rows) none in
    ap (λ (b : Server). record left { base = b }) base ∙ ap (λ (l : List Kept). record (just_begun server) { entries = l }) entries

-- ---- which file is in use

pub none_of : {X : Type 0} (it : Option X) → is_some it ≡ false → it ≡ None
none_of None is = refl
none_of (Some x) is = absurd (cc is)

-- the one that was made after the newest
pub in_use_next : (old made new : ℕ → Type 0) (done : Type 0) (number next : ℕ) (recovers : Trees → Type 0)
    (configuration : Configuration) (server : Server)
    → ((later : ℕ) → number < later → ¬ old later) → next ≡ suc number
    → ((other : ℕ) → made other → old other ⊎ (done × (other ≡ next)))
    → ((other : ℕ) → new other → made other) → new next → HasBase recovers server → server.configuration ≡ configuration
    → IsInUse new next recovers configuration server
in_use_next old made new done number next recovers configuration server newest is only within there base same = record {
  there = there;
  newest = λ later above has. ⊎_elim
      (λ was. newest later (omega (arith, is, above)) was)
      (λ it. absurd (omega (arith, above, it.1)))
      (only later (within later has));
  has_base = base;
  same = same;
}

-- the same, where no file was made
pub in_use_among : (old new : ℕ → Type 0) (number : ℕ) (recovers : Trees → Type 0) (configuration : Configuration) (base : Server)
    → IsInUse old number recovers configuration base → ((other : ℕ) → old other → new other) → ((other : ℕ) → new other → old other)
    → IsInUse new number recovers configuration base
in_use_among old new number recovers configuration base in_use others only = record {
  there = others number in_use.there;
  newest = λ later above has. in_use.newest later above (only later has);
  has_base = in_use.has_base;
  same = in_use.same;
}

-- it is still there, whether or not one was made
pub still_leaves : {S : Type 0} (old new : ℕ → Type 0) (number : ℕ) (recovers : S → Trees → Type 0) (used : S) (next : Option S)
    (configuration : Configuration)
    (base : Server) → IsInUse old number (recovers used) configuration base → ((other : ℕ) → old other → new other) → (db : Trees)
    → recovers used db
    → LeavesIn new number recovers used next (record { base = base; entries = entries_of (db table) })
still_leaves old new number recovers used next configuration base in_use others db left =
    inl (others number in_use.there, held_stays (recovers used) base in_use.has_base db left)
