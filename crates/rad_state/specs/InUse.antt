-- The file in use of a folder: what a crash leaves of it.
use Rattle.std.specs.Prelude.{◌≡◌, ◌<◌, ℕ, Option, Some, None, refl}
use Rattle.std.proofs.Common.{◌∙◌, ap, sym, inl, ⊎_elim}
use Rattle.rad_config.specs.Configurations.{Configuration}
use Rattle.rad_server.specs.Servers.{Server}
use Rattle.sqlite_trees.specs.Tree.{Trees}
use Rattle.rad_journal.specs.Rows.{entries_of, table}
use Rattle.rad_journal.specs.Stores.{Beside, LeavesOthers, MayLeave, others}
use Rattle.rad_state.specs.Generations.{Generation, HasBase, IsInUse, LeavesIn, LeavesLater, MayHold, Says}

-- a file with the same tables beside the journal's says the same
pub says_alike : (one other : Trees) (base : Server) → others one ≡ others other → Says one base → Says other base
says_alike one other base alike says = record {
  meta = says.meta;
  held = sym (ap (λ (beside : Beside). beside 0) alike) ∙ says.held;
  configuration = says.configuration;
  lawful = says.lawful;
  snapshot = record {
    sessions = sym (ap (λ (beside : Beside). beside 1) alike) ∙ says.snapshot.sessions;
    replies = sym (ap (λ (beside : Beside). beside 2) alike) ∙ says.snapshot.replies;
    challenges = sym (ap (λ (beside : Beside). beside 3) alike) ∙ says.snapshot.challenges;
    numbers = sym (ap (λ (beside : Beside). beside 4) alike) ∙ says.snapshot.numbers;
  };
}

-- what a crash leaves in a file with a base has this base
pub held_has_base : (recovers : Trees → Type 0) (base : Server) → HasBase recovers base → (left : Generation)
    → MayHold recovers left
    → (left.base ≡ base) × MayLeave recovers left.entries
held_has_base recovers base has left may = (
  has.only left.base (says_alike may.0 has.db left.base (has.beside may.0 may.1) may.2.says),
  (may.0, may.1, sym may.2.entries),
)

-- it may leave what is there
pub held_stays : (recovers : Trees → Type 0) (base : Server) → HasBase recovers base → (db : Trees) → recovers db
    → MayHold recovers (record { base = base; entries = entries_of (db table) })
unfolding says_alike
held_stays recovers base has db left = (
  db,
  left,
  record {
    says = says_alike has.db db base (sym (has.beside db left)) has.says;
    entries = refl;
    fits = record { format = has.fits.format; rules = λ any. has.fits.rules refl };
  },
)

none_later : {S : Type 0} (has : ℕ → Type 0) (number : ℕ) (recovers : S → Trees → Type 0)
    → ((later : ℕ) → number < later → ¬ has later)
    → (next : Option S) (left : Generation) → LeavesLater has number recovers next left → ⊥
none_later has number recovers newest None left may = newest may.0 may.1 may.2
none_later has number recovers newest (Some next) left may = newest may.0 may.1 may.2

module _ {S : Type 0} (has : ℕ → Type 0) (number : ℕ) (recovers : S → Trees → Type 0) (used : S) (next : Option S)
    (configuration : Configuration)
    (base : Server) (in_use : IsInUse has number (recovers used) configuration base) where
  pub in_use_leaves : (left : Generation) → LeavesIn has number recovers used next left
      → (left.base ≡ base) × MayLeave (recovers used) left.entries
  in_use_leaves left may = ⊎_elim
      (λ here. held_has_base (recovers used) base in_use.has_base left here.1)
      (λ later. absurd (none_later has number recovers in_use.newest next left later))
      may

  pub in_use_stays : (db : Trees) → recovers used db
      → LeavesIn has number recovers used next (record { base = base; entries = entries_of (db table) })
  in_use_stays db left = inl (in_use.there, held_stays (recovers used) base in_use.has_base db left)

pub in_use_keeps : (has : ℕ → Type 0) (number : ℕ) (old new : Trees → Type 0) (configuration : Configuration) (base : Server)
    → IsInUse has number old configuration base → ((beside : Beside) → LeavesOthers old beside → LeavesOthers new beside)
    → IsInUse has number new configuration base
in_use_keeps has number old new configuration base in_use kept = record {
  there = in_use.there;
  newest = in_use.newest;
  has_base = record {
    db = in_use.has_base.db;
    beside = kept (others in_use.has_base.db) in_use.has_base.beside;
    says = in_use.has_base.says;
    fits = in_use.has_base.fits;
    only = in_use.has_base.only;
  };
  same = in_use.same;
}
