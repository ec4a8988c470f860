-- Turns with no fresh entry, and entries with replies.
use Rattle.std.proofs.Common.{◌≡◌, ℕ, suc, Bool, false, List, [], ◌∷◌, Option, Some, refl, sym, ap, subst, arith}
use Rattle.std.specs.List.{cons_option}
use Rattle.std.specs.Prelude.{All, count_by}
use Rattle.rad_packet.specs.Attributes.{attributes_octets}
use Rattle.rad_packet.specs.Bodies.{Body}
use Rattle.rad_server.specs.declared.answer.Answer.{Answer}
use Rattle.rad_server.specs.declared.answer.Answer.TheVariants.{Send}
use Rattle.rad_server.specs.declared.entry.Entry.{Entry}
use Rattle.rad_journal.specs.Kept.{NoneIsFresh, kept_by, kept_of}
use Rattle.rad_journal.specs.Restores.{AreKept}
use Rattle.rad_journal.proofs.RefusalLemmas.{as_kept}
use Rattle.rad_journal.specs.declared.kept.Kept.{Kept}

-- ---- no fresh entry

pub none_counted : (marks : List Bool) → NoneIsFresh marks → count_by (λ (mark : Bool). mark) marks ≡ 0
none_counted [] none = refl
none_counted (mark ∷ marks) none =
    let first : mark ≡ false = none 0 mark (omega arith) in
    let others : count_by (λ (m : Bool). m) marks ≡ 0 = none_counted marks (λ k d lt. none (suc k) d (omega (arith, lt))) in
    rw first others

-- ---- entries with replies

pub replied_are_kept : (wall : ℕ) (entries : List Entry) → All (λ entry. (body : Body) × (entry.answer ≡ Send body)) entries
    → AreKept entries (kept_of wall entries)
replied_are_kept wall [] replied = tt
replied_are_kept wall (entry ∷ rest) replied =
    let first = replied 0 entry (omega arith) in
    let kept = as_kept wall entry (first.0.code ∷ attributes_octets first.0.attributes) in
    let is : kept_by wall entry ≡ Some kept = ap (λ (a : Answer). kept_by wall (record entry { answer = a })) first.1 in
    subst (λ (o : Option Kept). AreKept (entry ∷ rest) (cons_option o (kept_of wall rest))) (sym is)
    (is, replied_are_kept wall rest (λ k d lt. replied (suc k) d (omega (arith, lt))))
