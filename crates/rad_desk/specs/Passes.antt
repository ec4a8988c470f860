-- Passes: what one thread holds while it asks a desk.
use Rattle.std.specs.Prelude.{◌≡◌, ℕ, ◌+◌, List, [], ◌∷◌, ◌++◌, length, All}
use Rattle.rad_auth.specs.declared.arrival.Request.{Request}
use Rattle.rad_server.specs.Runs.{IsAsked}
use Rattle.rad_server.specs.Steps.{IsSealable}
use Rattle.rad_desk.specs.declared.receipt.Receipt.{Receipt}

-- the receipts, oldest first, and the amount of the share of the desk's ledger
pub record Pass : Type 0 where
  pub receipts : List Receipt
  pub amount : ℕ

-- the share is one part of the ledger, and its amount is the number of the receipts
pub record IsCounted (parts amount : ℕ) (receipts : List Receipt) : Type 0 where
  pub one : parts ≡ 1
  pub counted : amount ≡ length receipts

-- nothing was asked with a pass
abbrev pub IsNew : Pass → Type 0
IsNew pass = (pass.receipts ≡ []) × (pass.amount ≡ 0)

-- this many passes, with none of which anything was asked
abbrev pub AreNew : ℕ → List Pass → Type 0
AreNew count passes = (length passes ≡ count) × All IsNew passes

-- one more request was asked with a pass: it has one more receipt, whose entry holds what was asked and an answer that can be
-- sealed, and the amount is greater by one
pub record AddsReceipt (tag : ℕ) (request : Request) (moment : ℕ) (draw : List ℕ) (before after : Pass) : Type 0 where
  pub receipt : Receipt
  pub receipts : after.receipts ≡ before.receipts ++ receipt ∷ []
  pub asked : IsAsked tag request moment draw receipt.entry
  pub sealable : IsSealable receipt.entry.answer
  pub amount : after.amount ≡ before.amount + 1
