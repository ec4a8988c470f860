-- Settlements: whether the receipts of passes agree with a history. Places and numbers of passes are counted from 0.
use Rattle.std.specs.Prelude.{◌≡◌, ◌≢◌, ℕ, ◌+◌, ◌≤◌, ◌⊎◌, List, [], ◌∷◌, length, slice_get, Some, All}
use Rattle.rad_server.specs.Books.{Book}
use Rattle.rad_server.specs.Servers.{Server}
use Rattle.rad_server.specs.declared.entry.Entry.{Entry}
use Rattle.rad_desk.specs.Passes.{Pass}
use Rattle.rad_desk.specs.declared.mismatch.Mismatch.{Mismatch}
use Rattle.rad_desk.specs.declared.mismatch.Mismatch.TheVariants.{Opening, Count, At}
use Rattle.rad_desk.specs.declared.receipt.Receipt.{Receipt}

-- ---- receipts

-- how many receipts passes have
abbrev pub receipt_count : List Pass → ℕ
receipt_count [] = 0
receipt_count (pass ∷ rest) = length pass.receipts + receipt_count rest

-- the entry of a receipt is at its place
abbrev pub IsAtItsPlace : List Entry → Receipt → Type 0
IsAtItsPlace history receipt = slice_get history receipt.place ≡ Some receipt.entry

-- the same, and the place isn't below a floor
abbrev pub IsAtItsPlaceFrom : ℕ → List Entry → Receipt → Type 0
IsAtItsPlaceFrom floor history receipt = (floor ≤ receipt.place) × IsAtItsPlace history receipt

-- each receipt's entry is at its place, which is above that of the receipt before; the first place isn't below the floor
abbrev pub AreInOrder : ℕ → List Entry → List Receipt → Type 0
AreInOrder floor history [] = Unit {0}
AreInOrder floor history (receipt ∷ rest) =
    IsAtItsPlaceFrom floor history receipt × AreInOrder (receipt.place + 1) history rest

-- a receipt with this place has its entry elsewhere, or its place isn't above that of the receipt before
abbrev pub HasMisplaced : ℕ → List Entry → List Receipt → ℕ → Type 0
HasMisplaced floor history [] place = ⊥
HasMisplaced floor history (receipt ∷ rest) place =
    ((receipt.place ≡ place) × (IsAtItsPlaceFrom floor history receipt → ⊥))
    ⊎ HasMisplaced (receipt.place + 1) history rest place

-- ---- passes

-- the receipts of a pass are in order
abbrev pub IsSettled : List Entry → Pass → Type 0
IsSettled history pass = AreInOrder 0 history pass.receipts

-- the pass of this number has a misplaced receipt with this place
abbrev pub IsMisplaced : List Entry → List Pass → ℕ → ℕ → Type 0
IsMisplaced history passes number place =
    (pass : Pass) × (slice_get passes number ≡ Some pass) × HasMisplaced 0 history pass.receipts place

-- a history and passes agree: it has as many entries as they have receipts, and the receipts of each pass are in order
pub record Agrees (history : List Entry) (passes : List Pass) : Type 0 where
  pub count : receipt_count passes ≡ length history
  pub settled : All (IsSettled history) passes

-- ---- mismatches

abbrev pub mismatch_number : Mismatch → ℕ
mismatch_number Opening = 1
mismatch_number Count = 2
mismatch_number (At pass place) = 3

-- why a history and passes don't agree; the count is compared first
abbrev pub Disagrees : List Entry → List Pass → Mismatch → Type 0
Disagrees history passes Opening = ⊥
Disagrees history passes Count = receipt_count passes ≢ length history
Disagrees history passes (At pass place) = (receipt_count passes ≡ length history) × IsMisplaced history passes pass place

-- why a book, the server given and passes don't agree; the opening is compared first
abbrev pub IsMismatch : Book → Server → List Pass → Mismatch → Type 0
IsMismatch book server passes Opening = book.opening ≢ server
IsMismatch book server passes Count = (book.opening ≡ server) × Disagrees book.history passes Count
IsMismatch book server passes (At pass place) = (book.opening ≡ server) × Disagrees book.history passes (At pass place)

-- ---- the law

-- where a receipt is misplaced, the history and the passes don't agree
abbrev pub MisplacedDisagree : Type 0
MisplacedDisagree = (history : List Entry) (passes : List Pass) (number place : ℕ)
    → IsMisplaced history passes number place → Agrees history passes → ⊥
