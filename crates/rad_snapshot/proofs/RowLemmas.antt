-- Rows come back as what they are of.
use Rattle.std.proofs.Common.{◌≡◌, ℕ, suc, ◌+◌, List, [], ◌∷◌, ◌++◌, length, Option, Some, None, true, false, refl, sym, ap, ◌∙◌}
use Rattle.std.proofs.Common.{arith}
use Rattle.std.specs.Prelude.{is_some}
use Rattle.std.specs.List.{AllByRecursion}
use Rattle.rad_packet.specs.Attributes.{Attribute, attributes_octets, attributes_of}
use Rattle.rad_packet.proofs.AttributeLemmas.{in-spelled, of-spelled}
use Rattle.rad_auth.specs.declared.arrival.Door.{Door}
use Rattle.rad_journal.specs.Rows.{door_back}
use Rattle.rad_pool.specs.declared.session.Phase.{Phase}
use Rattle.rad_pool.specs.declared.session.Phase.TheVariants.{Pending, Active, Ended}
use Rattle.rad_pool.specs.declared.session.Session.{Session}
use Rattle.rad_recent.specs.declared.challenge.Challenge.{Challenge}
use Rattle.rad_recent.specs.declared.kept.Kept.{Kept}
use Rattle.rad_server.specs.declared.state_row.StateRow.{StateRow}
use Rattle.rad_server.specs.declared.state_row.StateRow.TheVariants as rows
use Rattle.sqlite_value.specs.declared.value.Value.TheVariants.{Blob}
use Rattle.sqlite_value.specs.Order.{Row, column}
use Rattle.rad_snapshot.specs.Restoring.{HasRow, IsChallengeRow, IsOf, IsReplyRow, IsRowAt, IsSessionRow, item_of}
use Rattle.rad_snapshot.specs.Rows.{at_reply_attributes, IsWithin, challenge_of, challenge_row, number_if_any, number_or_null}
use Rattle.rad_snapshot.specs.Rows.{phase_number, phase_of, reply_of, reply_row, row_of, rows_from, session_of, session_row}
use Rattle.rad_snapshot.specs.declared.snapshot_table.SnapshotTable.{SnapshotTable}
use Rattle.rad_snapshot.specs.declared.snapshot_table.SnapshotTable.TheVariants as tables

-- ---- one row

number_back : (n : Option ℕ) → number_if_any (number_or_null n) ≡ n
number_back None = refl
number_back (Some n) = refl

phase_back : (phase : Phase) → phase_of (phase_number phase) ≡ phase
phase_back Pending = refl
phase_back Active = refl
phase_back Ended = refl

pub session_back : (place : ℕ) (session : Session) → session_of (session_row place session) ≡ session
session_back place session =
    ap (λ (n : Option ℕ). record session { address = n; phase = phase_of (phase_number session.phase) })
    (number_back session.address)
    ∙ ap (λ (p : Phase). record session { phase = p }) (phase_back session.phase)

pub reply_back : (place : ℕ) (reply : Kept) → reply_of (reply_row place reply) ≡ reply
reply_back place reply =
    let door : Door → Kept = λ d. record (reply_of (reply_row place reply)) { key = record reply.key { door = d } } in
    let client : Option ℕ → Kept = λ n. record (reply_of (reply_row place reply)) { key = reply.key; client = n } in
    let attributes : List Attribute → Kept = λ list. record reply { body = record reply.body { attributes = list } } in
    ap door (door_back reply.key.door) ∙ ap client (number_back reply.client)
    ∙ ap attributes (in-spelled (attributes_octets reply.body.attributes) reply.body.attributes refl)

pub challenge_back : (place : ℕ) (challenge : Challenge) → challenge_of (challenge_row place challenge) ≡ challenge
challenge_back place challenge = refl

pub row_back : (table : SnapshotTable) (place : ℕ) (item : StateRow) → IsOf table item → item_of table (row_of place item) ≡ item
row_back tables.Sessions place (rows.Session session) is = ap rows.Session (session_back place session)
row_back tables.Sessions place (rows.LastSession last) is = absurd is
row_back tables.Sessions place (rows.Reply reply) is = absurd is
row_back tables.Sessions place (rows.Challenge challenge) is = absurd is
row_back tables.Sessions place (rows.LastChallenge last) is = absurd is
row_back tables.Replies place (rows.Session session) is = absurd is
row_back tables.Replies place (rows.LastSession last) is = absurd is
row_back tables.Replies place (rows.Reply reply) is = ap rows.Reply (reply_back place reply)
row_back tables.Replies place (rows.Challenge challenge) is = absurd is
row_back tables.Replies place (rows.LastChallenge last) is = absurd is
row_back tables.Challenges place (rows.Session session) is = absurd is
row_back tables.Challenges place (rows.LastSession last) is = absurd is
row_back tables.Challenges place (rows.Reply reply) is = absurd is
row_back tables.Challenges place (rows.Challenge challenge) is = ap rows.Challenge (challenge_back place challenge)
row_back tables.Challenges place (rows.LastChallenge last) is = absurd is
row_back tables.Numbers place (rows.Session session) is = absurd is
row_back tables.Numbers place (rows.LastSession last) is = absurd is
row_back tables.Numbers place (rows.Reply reply) is = absurd is
row_back tables.Numbers place (rows.Challenge challenge) is = absurd is
row_back tables.Numbers place (rows.LastChallenge last) is = absurd is

pub has_row : (table : SnapshotTable) (item : StateRow) → IsOf table item → HasRow item
has_row tables.Sessions (rows.Session session) is place = refl
has_row tables.Sessions (rows.LastSession last) is place = absurd is
has_row tables.Sessions (rows.Reply reply) is place = absurd is
has_row tables.Sessions (rows.Challenge challenge) is place = absurd is
has_row tables.Sessions (rows.LastChallenge last) is place = absurd is
has_row tables.Replies (rows.Session session) is place = absurd is
has_row tables.Replies (rows.LastSession last) is place = absurd is
has_row tables.Replies (rows.Reply reply) is place = refl
has_row tables.Replies (rows.Challenge challenge) is place = absurd is
has_row tables.Replies (rows.LastChallenge last) is place = absurd is
has_row tables.Challenges (rows.Session session) is place = absurd is
has_row tables.Challenges (rows.LastSession last) is place = absurd is
has_row tables.Challenges (rows.Reply reply) is place = absurd is
has_row tables.Challenges (rows.Challenge challenge) is place = refl
has_row tables.Challenges (rows.LastChallenge last) is place = absurd is
has_row tables.Numbers (rows.Session session) is place = absurd is
has_row tables.Numbers (rows.LastSession last) is place = absurd is
has_row tables.Numbers (rows.Reply reply) is place = absurd is
has_row tables.Numbers (rows.Challenge challenge) is place = absurd is
has_row tables.Numbers (rows.LastChallenge last) is place = absurd is

-- rows at one place that are one are of one
pub row_same : (table : SnapshotTable) (place : ℕ) (one other : StateRow) → IsOf table one → IsOf table other
    → row_of place one ≡ row_of place other → one ≡ other
row_same table place one other kind kind' same =
    sym (row_back table place one kind) ∙ ap (λ (r : Row). item_of table r) same ∙ row_back table place other kind'

-- ---- lists of rows

first_same : {A : Type 0} (x y : A) (xs ys : List A) → x ∷ xs ≡ y ∷ ys → x ≡ y
first_same x y xs ys same = cc same

rest_same : {A : Type 0} (x y : A) (xs ys : List A) → x ∷ xs ≡ y ∷ ys → xs ≡ ys
rest_same x y xs ys same = cc same

-- rows that are one are of one list
pub rows_same : (table : SnapshotTable) (n : ℕ) (xs ys : List StateRow) → AllByRecursion (IsOf table) xs
    → AllByRecursion (IsOf table) ys
    → rows_from n xs ≡ rows_from n ys → xs ≡ ys
rows_same table n [] [] kinds kinds' same = refl
rows_same table n [] (y ∷ ys) kinds kinds' same = absurd (cc same)
rows_same table n (x ∷ xs) [] kinds kinds' same = absurd (cc same)
rows_same table n (x ∷ xs) (y ∷ ys) kinds kinds' same =
    let one : x ≡ y = row_same table n x y kinds.0 kinds'.0
    (first_same (row_of n x) (row_of n y) (rows_from (suc n) xs) (rows_from (suc n) ys) same) in
    let others : xs ≡ ys = rows_same table (suc n) xs ys kinds.1 kinds'.1
    (rest_same (row_of n x) (row_of n y) (rows_from (suc n) xs) (rows_from (suc n) ys) same) in
    ap (λ (z : StateRow). z ∷ xs) one ∙ ap (λ (l : List StateRow). y ∷ l) others

-- one row of many: those before it, and it
pub record IsCut (n : ℕ) (done xs : List StateRow) (row : Row) : Type 0 where
  pub item : StateRow
  pub rest : List StateRow
  pub split : xs ≡ done ++ item ∷ rest
  pub is : row ≡ row_of (n + length done) item

pub cut_at : (table : SnapshotTable) (n : ℕ) (done xs : List StateRow) (row : Row) (left : List Row)
    → AllByRecursion (IsOf table) done → AllByRecursion (IsOf table) xs
    → rows_from n xs ≡ rows_from n done ++ row ∷ left → IsCut n done xs row
cut_at table n [] [] row left kinds kinds' same = absurd (cc same)
cut_at table n [] (x ∷ xs) row left kinds kinds' same =
    let here : n ≡ n + 0 = omega arith in
    record {
      item = x;
      rest = xs;
      split = refl;
      is = sym (first_same (row_of n x) row (rows_from (suc n) xs) left same) ∙ ap (λ (k : ℕ). row_of k x) here;
    }
cut_at table n (d ∷ done) [] row left kinds kinds' same = absurd (cc same)
cut_at table n (d ∷ done) (x ∷ xs) row left kinds kinds' same =
    let one : x ≡ d = row_same table n x d kinds'.0 kinds.0
    (first_same (row_of n x) (row_of n d) (rows_from (suc n) xs) (rows_from (suc n) done ++ row ∷ left) same) in
    let more = cut_at table (suc n) done xs row left kinds.1 kinds'.1
    (rest_same (row_of n x) (row_of n d) (rows_from (suc n) xs) (rows_from (suc n) done ++ row ∷ left) same) in
    let there : suc n + length done ≡ n + length (d ∷ done) = omega arith in
    record {
      item = more.item;
      rest = more.rest;
      split = ap (λ (z : StateRow). z ∷ xs) one ∙ ap (λ (l : List StateRow). d ∷ l) more.split;
      is = more.is ∙ ap (λ (k : ℕ). row_of k more.item) there;
    }

-- what holds of each holds of one in the midst
pub one_of : (P : StateRow → Type 0) (done : List StateRow) (item : StateRow) (rest : List StateRow)
    → AllByRecursion P (done ++ item ∷ rest) → P item
one_of P [] item rest each = each.0
one_of P (d ∷ done) item rest each = one_of P done item rest each.1

-- and of one more
pub one_more : (P : StateRow → Type 0) (done : List StateRow) (item : StateRow) → AllByRecursion P done → P item
    → AllByRecursion P (done ++ item ∷ [])
one_more P [] item each it = (it, tt)
one_more P (d ∷ done) item each it = (each.0, one_more P done item each.1 it)

-- the rows of one more
pub rows_push : (n : ℕ) (done : List StateRow) (item : StateRow)
    → rows_from n (done ++ item ∷ []) ≡ rows_from n done ++ row_of (n + length done) item ∷ []
rows_push n [] item = let here : n ≡ n + 0 = omega arith in ap (λ (k : ℕ). row_of k item ∷ []) here
rows_push n (d ∷ done) item =
    let there : suc n + length done ≡ n + length (d ∷ done) = omega arith in
    ap (λ (l : List Row). row_of n d ∷ l)
    (rows_push (suc n) done item ∙ ap (λ (k : ℕ). rows_from (suc n) done ++ row_of k item ∷ []) there)

-- ---- rows that are none of a table

pub no_session : (row : Row) → (IsSessionRow row → ⊥) → (place : ℕ) → IsRowAt tables.Sessions place row → ⊥
no_session row none place at = pick at.item at.kind at.within at.is
  where
    pick : (item : StateRow) → IsOf tables.Sessions item → IsWithin item → row ≡ row_of place item → ⊥
    pick (rows.Session session) kind within is = none (place, session, within, is)
    pick (rows.LastSession last) kind within is = kind
    pick (rows.Reply reply) kind within is = kind
    pick (rows.Challenge challenge) kind within is = kind
    pick (rows.LastChallenge last) kind within is = kind

pub no_reply : (row : Row) → (IsReplyRow row → ⊥) → (place : ℕ) → IsRowAt tables.Replies place row → ⊥
no_reply row none place at = pick at.item at.kind at.within at.is
  where
    pick : (item : StateRow) → IsOf tables.Replies item → IsWithin item → row ≡ row_of place item → ⊥
    pick (rows.Session session) kind within is = kind
    pick (rows.LastSession last) kind within is = kind
    pick (rows.Reply reply) kind within is = none (place, reply, within, is)
    pick (rows.Challenge challenge) kind within is = kind
    pick (rows.LastChallenge last) kind within is = kind

pub no_challenge : (row : Row) → (IsChallengeRow row → ⊥) → (place : ℕ) → IsRowAt tables.Challenges place row → ⊥
no_challenge row none place at = pick at.item at.kind at.within at.is
  where
    pick : (item : StateRow) → IsOf tables.Challenges item → IsWithin item → row ≡ row_of place item → ⊥
    pick (rows.Session session) kind within is = kind
    pick (rows.LastSession last) kind within is = kind
    pick (rows.Reply reply) kind within is = kind
    pick (rows.Challenge challenge) kind within is = none (place, challenge, within, is)
    pick (rows.LastChallenge last) kind within is = kind

pub no_numbers_row : (row : Row) (place : ℕ) → IsRowAt tables.Numbers place row → ⊥
no_numbers_row row place at = pick at.item at.kind
  where
    pick : (item : StateRow) → IsOf tables.Numbers item → ⊥
    pick (rows.Session session) kind = kind
    pick (rows.LastSession last) kind = kind
    pick (rows.Reply reply) kind = kind
    pick (rows.Challenge challenge) kind = kind
    pick (rows.LastChallenge last) kind = kind

-- a row that differs from the one that is made again of it
pub row_unlike : (table : SnapshotTable) (place : ℕ) (row wanted : Row) (item : StateRow) → item ≡ item_of table row
    → wanted ≡ row_of place item
    → (row ≡ wanted → ⊥) → IsRowAt table place row → ⊥
row_unlike table place row wanted item of again differs at =
    let same : item ≡ at.item = of ∙ ap (λ (r : Row). item_of table r) at.is ∙ row_back table place at.item at.kind in
    differs (at.is ∙ ap (λ (x : StateRow). row_of place x) (sym same) ∙ sym again)

-- malformed attributes are in no kept reply's row
pub no_body : (row : Row) (octets : List ℕ) → column row at_reply_attributes ≡ Blob octets → is_some (attributes_of octets) ≡ false
    → IsReplyRow row → ⊥
no_body row octets at none reply =
    let list = reply.1.body.attributes in
    let there : column row at_reply_attributes ≡ Blob (attributes_octets list) =
    ap (λ (r : Row). column r at_reply_attributes) reply.3 in
    let same : octets ≡ attributes_octets list = blob octets (attributes_octets list) (sym at ∙ there) in
    let some : is_some (attributes_of octets) ≡ true =
    ap (λ (l : List ℕ). is_some (attributes_of l)) same ∙ ap (λ (o : Option (List Attribute)). is_some o) (of-spelled list) in
    absurd (cc (none, some))
  where
    blob : (a b : List ℕ) → Blob a ≡ Blob b → a ≡ b
    blob a b same = cc same
