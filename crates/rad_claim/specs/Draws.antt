-- Draws: the numbers that seats have drawn from one word. They are counted from 0, and the word is the next one. The first of them
-- are batches, as many as there are batches; the others are none.
use Rattle.std.specs.Prelude.{◌≡◌, ℕ, ◌+◌, ◌<◌, ◌≤◌, not, List, [], ◌∷◌, ◌++◌, length, take, drop, replicate, slice_index}
use Rattle.std.specs.Prelude.{if◌then◌else◌, nat_lt, ◌==◌}
use Rattle.std.specs.List.{All, AllPairs, count_by, sum_by}
use mathlib.Core.Option.{some}
use lib.ListN.{get_elem?}
use Rattle.atomic_table.specs.Table.{Me}
use Rattle.rad_claim.specs.declared.view.Size.{Size}
use Rattle.rad_claim.specs.declared.view.View.{View}

-- ---- lists of numbers

-- each number is below all later ones
abbrev pub Rises : List ℕ → Type 0
Rises numbers = AllPairs (λ number later. number < later) numbers

-- how often a number is in a list, and in several lists
abbrev pub times : ℕ → List ℕ → ℕ
times number numbers = count_by (λ drawn. drawn == number) numbers

abbrev pub times_in : ℕ → List (List ℕ) → ℕ
times_in number lists = sum_by (times number) lists

-- how often a number is among the numbers below a bound: once if it is below it, else never
abbrev pub once_below : ℕ → ℕ → ℕ
once_below bound number = if nat_lt number bound then 1 else 0

-- how many numbers of a list, and of several lists, are no batch
abbrev pub past : ℕ → List ℕ → ℕ
past batches numbers = count_by (λ number. not (nat_lt number batches)) numbers

abbrev pub past_in : ℕ → List (List ℕ) → ℕ
past_in batches lists = sum_by (past batches) lists

-- ---- the rule

-- what one seat has drawn: its numbers rise, and only the last one can be no batch
pub record IsOfSeat (batches : ℕ) (numbers : List ℕ) : Type 0 where
  pub rises : Rises numbers
  pub last : (place : ℕ) → place + 1 < length numbers → slice_index numbers place < batches

-- The numbers in all views are those below the word, each once. Each list is that of one seat, and there are as many lists as
-- seats. The word is above the number of batches by no more than there are numbers that are no batch.
pub record AreDraws (size : Size) (words : List ℕ) (views : List View) : Type 0 where
  pub word : length words ≡ 1
  pub once : (number : ℕ) → sum_by (λ view. times_in number view.drawn) views ≡ once_below (slice_index words 0) number
  pub each : (id : ℕ) (view : View) → get_elem? views id ≡ some view → All (IsOfSeat size.batches) view.drawn
  pub seats : sum_by (λ view. length view.drawn) views ≡ size.seats
  pub most : slice_index words 0 ≤ size.batches + sum_by (λ view. past_in size.batches view.drawn) views

-- ---- views

-- the view of a seat that is lent: it stands for that seat, which has drawn these numbers
abbrev pub lent : List ℕ → View
lent numbers = record { drawn = numbers ∷ [] }

-- the view that stands for this many seats, none of which is lent yet
abbrev pub unlent : ℕ → View
unlent seats = record { drawn = replicate seats [] }

-- the view of a seat that was taken back: it stands for none
abbrev pub spent : View
spent = record { drawn = [] }

-- a seat that is lent draws a number, which is above all that it has drawn
abbrev pub IsDraw : Me (Unit {0}) View → ℕ → Me (Unit {0}) View → Type 0
IsDraw before number after = (numbers : List ℕ) → before ≡ (lent numbers, [])
    → (after ≡ (lent (numbers ++ number ∷ []), [])) × All (λ drawn. drawn < number) numbers

-- a view that is cut in two: that of the first seat, and that of the others
abbrev pub first_of : View → View
first_of view = record { drawn = take 1 view.drawn }

abbrev pub others_of : View → View
others_of view = record { drawn = drop 1 view.drawn }

-- the view that stands for the seats of two
abbrev pub both_of : View → View → View
both_of view other = record { drawn = view.drawn ++ other.drawn }

-- ---- the law

-- where the rule holds, the word is at most the number of batches and of seats together
abbrev pub WordIsBounded : Type 0
WordIsBounded = (size : Size) (words : List ℕ) (views : List View) → AreDraws size words views
    → slice_index words 0 ≤ size.batches + size.seats
