-- Claims: batches, counted from 0, each of which one seat claims.
use Rattle.std.specs.Prelude.{◌≡◌, ℕ, ◌<◌, ◌≤◌, Bool, true, List, [], ◌∷◌, ◌++◌, map, take, Option, Some, None, length, is_some}
use Rattle.std.specs.Prelude.{if◌then◌else◌, nat_lt, MatchOption}
use Rattle.std.specs.List.{All, list_all}
use Rattle.std.specs.Option.{option_to_list}
use Rattle.atomic_table.specs.Seated.{TableId}
use Rattle.atomic_table.specs.Table.{Me}
use Rattle.rad_claim.specs.Draws.{Rises, times_in, once_below, lent}
use Rattle.rad_claim.specs.declared.close_fault.CloseFault.{CloseFault}
use Rattle.rad_claim.specs.declared.close_fault.CloseFault.TheVariants.{TooFew, Unfinished}
use Rattle.rad_claim.specs.declared.view.Size.{Size}
use Rattle.rad_claim.specs.declared.view.View.{View}

-- the most batches
abbrev pub batches_max : ℕ
batches_max = 8192

-- the most seats
abbrev pub seats_max : ℕ
seats_max = 8

-- claims: the table of their word, and how many batches and seats they have
pub record Claims : Type 0 where
  pub table : TableId
  pub batches : ℕ
  pub seats : ℕ

-- a seat: the table of its word, and how many batches there are; the batches that it has claimed, in this order; and if it has
-- finished, the number that it drew after them, which is no batch
pub record ClaimSeat : Type 0 where
  pub table : TableId
  pub batches : ℕ
  pub claimed : List ℕ
  pub ended : Option ℕ

-- a seat of these claims
abbrev pub IsSeatOf : Claims → ClaimSeat → Type 0
IsSeatOf claims seat = (seat.table ≡ claims.table) × (seat.batches ≡ claims.batches)

-- a seat with this table that has drawn nothing
abbrev pub new_seat : TableId → ℕ → ClaimSeat
new_seat table batches = record { table = table; batches = batches; claimed = []; ended = None }

-- a seat of these claims that has drawn nothing
abbrev pub IsNewSeatOf : Claims → ClaimSeat → Type 0
IsNewSeatOf claims seat = seat ≡ new_seat claims.table claims.batches

-- whether a seat was told that there are no more batches
abbrev pub has_finished : ClaimSeat → Bool
has_finished seat = is_some seat.ended

-- a seat of these claims that was told so
abbrev pub IsFinishedSeatOf : Claims → ClaimSeat → Type 0
IsFinishedSeatOf claims seat = IsSeatOf claims seat × (has_finished seat ≡ true)

-- ---- claiming

-- a seat with one more batch
abbrev pub with_batch : ℕ → ClaimSeat → ClaimSeat
with_batch batch seat = record seat { claimed = seat.claimed ++ batch ∷ [] }

-- a seat that has drawn a number that is no batch
abbrev pub with_end : ℕ → ClaimSeat → ClaimSeat
with_end number seat = record seat { ended = Some number }

-- a seat that hasn't finished claims a batch, which is above all that it has claimed; so it has not claimed all
pub record IsNext (before : ClaimSeat) (batch : ℕ) (after : ClaimSeat) : Type 0 where
  pub unfinished : before.ended ≡ None
  pub batch_is : batch < before.batches
  pub new : All (λ claimed. claimed < batch) before.claimed
  pub more : length before.claimed < before.batches
  pub after_is : after ≡ with_batch batch before

-- a seat is told that there are no more: it draws a number that is no batch, or it has finished before and draws nothing
abbrev pub HasEnded : ClaimSeat → ClaimSeat → Type 0
HasEnded before after =
    MatchOption before.ended ((number : ℕ) × (before.batches ≤ number) × (after ≡ with_end number before))
    (λ number. after ≡ before)

-- ---- closing

-- each batch is in the lists once, and nothing else is in them
abbrev pub IsEachOnce : ℕ → List (List ℕ) → Type 0
IsEachOnce batches lists = (number : ℕ) → times_in number lists ≡ once_below batches number

-- the lists of seats that are handed in: the batches of each, in the order in which the seats are, and rising; each batch is in the
-- lists once
pub record AreDealt (batches : ℕ) (handed : List ClaimSeat) (lists : List (List ℕ)) : Type 0 where
  pub of_seats : lists ≡ map (λ seat. seat.claimed) handed
  pub once : IsEachOnce batches lists
  pub rise : All Rises lists

-- why claims with so many seats don't close, if so: a seat is missing, or else one of those handed in hasn't finished
abbrev pub close_fault : ℕ → List ClaimSeat → Option CloseFault
close_fault seats handed =
    if nat_lt (length handed) seats then Some TooFew else if list_all has_finished handed then None else Some Unfinished

-- ---- private

-- all numbers that a seat has drawn: its batches, and the one that is none
abbrev pub drawn_by : List ℕ → Option ℕ → List ℕ
drawn_by claimed ended = claimed ++ option_to_list ended

-- what a seat keeps: its view has the numbers that it has drawn, its batches rise, what it drew after them is no batch, and it has
-- memory for all batches
pub record HasDrawn (batches : ℕ) (me : Me (Unit {0}) View) (claimed : List ℕ) (capacity : ℕ) (ended : Option ℕ) : Type 0 where
  pub view : me ≡ (lent (drawn_by claimed ended), [])
  pub below : All (λ batch. batch < batches) claimed
  pub rises : Rises claimed
  pub end : MatchOption ended (Unit {0}) (λ number. batches ≤ number)
  pub capacity_is : batches ≤ capacity

-- what of this can be seen without its view
pub record IsOrdered (seat : ClaimSeat) : Type 0 where
  pub below : All (λ batch. batch < seat.batches) seat.claimed
  pub rises : Rises seat.claimed
  pub end : MatchOption seat.ended (Unit {0}) (λ number. seat.batches ≤ number)

-- lists with one more, if there is memory
abbrev pub put_last : ℕ → List (List ℕ) → List ℕ → List (List ℕ)
put_last capacity lists list = take capacity (lists ++ list ∷ [])

-- all numbers that seats have drawn, a list for each
abbrev pub drawn_lists : List ClaimSeat → List (List ℕ)
drawn_lists seats = map (λ seat. drawn_by seat.claimed seat.ended) seats

-- while seats are taken back, one view stands for all that are back, and there is a list for each, as far as there is memory
pub record AreBack (back : List ClaimSeat) (me : Me (Unit {0}) View) (capacity : ℕ) (lists : List (List ℕ)) : Type 0 where
  pub view : me ≡ (record { drawn = drawn_lists back }, [])
  pub lists_is : lists ≡ take capacity (map (λ seat. seat.claimed) back)
  pub ordered : All IsOrdered back

-- what claims keep: a table with one word, the limits, and memory for the list of each seat
pub record AreOpen (table : TableId) (size : Size) (batches seats lists capacity : ℕ) : Type 0 where
  pub word : table.words ≡ 1
  pub slots : table.slots ≡ 0
  pub size_is : size ≡ record { batches = batches; seats = seats }
  pub few_batches : batches ≤ batches_max
  pub some : 1 ≤ seats
  pub few_seats : seats ≤ seats_max
  pub empty : lists ≡ 0
  pub capacity_is : seats ≤ capacity
