-- Logs: what each taking of a lock appended to a history, oldest first.
use Rattle.std.specs.Prelude.{ℕ, ◌≡◌, true, false, List, [], ◌∷◌, ◌++◌, length, drop, slice_get, Some, Vec}
use mathlib.Core.Option.{Option, some, none}
use lib.ListN.{get_elem?}
use Rattle.atomic_table.specs.Seated.{TableId}
use Rattle.atomic_table.specs.Table.{Me}
use Rattle.std.specs.declared.alloc.Global.{Global}
use Rattle.rad_log.specs.declared.rule.Taking.{Taking}
use Rattle.rad_log.specs.declared.rule.View.{View}

abbrev pub taking : {T : Type 0} → ℕ → List T → Taking T
taking number entries = record { number = number; entries = entries }

-- the entries of all takings, in order
abbrev pub entries_of : {T : Type 0} → List (Taking T) → List T
entries_of [] = []
entries_of (t ∷ rest) = t.entries ++ entries_of rest

-- a taking stands in a log
abbrev pub Has : {T : Type 0} → List (Taking T) → Taking T → Type 0
Has log t = (place : ℕ) × (slice_get log place ≡ Some t)

-- what a history has beyond these takings
abbrev pub newer : {T : Type 0} → List (Taking T) → List T → List T
newer log history = drop (length (entries_of log)) history

-- ---- private: what a seat knows

abbrev pub no_taking : {T : Type 0} → Taking T
no_taking = taking 0 []

-- the keeper of a log
abbrev pub keeper_of : {T : Type 0} → List (Taking T) → View T
keeper_of log = record { keeps = true; log = log; claims = false; taking = no_taking }

-- who has a claim to a taking
abbrev pub claim_of : {T : Type 0} → Taking T → View T
claim_of t = record { keeps = false; log = []; claims = true; taking = t }

-- a seat that was taken back
abbrev pub spent : {T : Type 0} → View T
spent = record { keeps = false; log = []; claims = false; taking = no_taking }

-- a view that is cut in two: what is left, and the claim in it
abbrev pub without_claim : {T : Type 0} → View T → View T
without_claim view = record { keeps = view.keeps; log = view.log; claims = false; taking = no_taking }

abbrev pub claim_in : {T : Type 0} → View T → View T
claim_in view = record { keeps = false; log = []; claims = view.claims; taking = view.taking }

-- a view with the claim of another
abbrev pub with_claim_of : {T : Type 0} → View T → View T → View T
with_claim_of view other = record { keeps = view.keeps; log = view.log; claims = other.claims; taking = other.taking }

-- ---- private: the rule

-- what a seat may know: the whole log if it is the keeper's, and a taking that stands in the log if it claims one
abbrev pub Fits : {T : Type 0} → ℕ → List (Taking T) → ℕ → View T → Type 0
Fits keeper log seat view = (view.keeps ≡ true → (seat ≡ keeper) × (view.log ≡ log)) × (view.claims ≡ true → Has log view.taking)

-- only one seat knows the log, and each taking that is claimed stands in it
abbrev pub IsKept : {T : Type 0} → List (View T) → Type 0
IsKept {T = T} views =
    (keeper : ℕ) × (log : List (Taking T))
    × ((seat : ℕ) (view : View T) → get_elem? views seat ≡ some view → Fits keeper log seat view)

-- ---- private: the steps

abbrev pub said_by : {T : Type 0} → Option (Vec T Global) → List T
said_by (some history) = history.items
said_by none = []

-- a log with one more taking, which is claimed
abbrev pub published : {T : Type 0} → ℕ → List T → View T → View T
published number history view = record {
  keeps = view.keeps;
  log = view.log ++ taking number (newer view.log history) ∷ [];
  claims = true;
  taking = taking number (newer view.log history);
}

abbrev pub IsPublished : {T : Type 0} → ℕ → Option (Vec T Global) → Me (Vec T Global) (View T) → Me (Vec T Global) (View T) → Type 0
IsPublished number said before after = after ≡ (published number (said_by said) before.0, before.1)

abbrev pub IsFound : {T : Type 0} → Me (Vec T Global) (View T) → Me (Vec T Global) (View T) → Type 0
IsFound before after = (after ≡ (without_claim before.0, before.1)) × (before.0.claims ≡ true → Has before.0.log before.0.taking)

-- ---- private: names

-- no table: that of `Brand`, until a call names another
abbrev pub no_table : TableId
no_table = record { words = 0; slots = 0; views_name = 0; atom = 0; block = 0; offset = 0; slot_names = [] }
