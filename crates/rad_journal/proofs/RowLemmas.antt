-- Rows of entries: found by their rowids, and put behind the others.
use Rattle.std.proofs.Common.{◌≡◌, ◌<◌, ⊎_elim, ℕ, zero, suc, ◌+◌, pos, Bool, true, false, ◌==◌, if◌then◌else◌, List, [], ◌∷◌, ◌++◌}
use Rattle.std.proofs.Common.{length, filter, Option, Some, None, IfSome, Result, Ok, Err, slice_get, Less, is_eq, refl, sym, ap}
use Rattle.std.proofs.Common.{subst, ◌∙◌, arith, append-nil, append_assoc}
use Rattle.std.specs.Ordering.{match_ordering}
use Rattle.std.specs.Prelude.{option_map, option_to_list}
use Rattle.rad_accounting.specs.Records.{grant_row, report_row}
use Rattle.rad_packet.specs.Attributes.{Attribute, first_integer}
use Rattle.rad_packet.specs.Codes.{code_accounting_request}
use Rattle.rad_packet.specs.Packets.{Packet, packet_of}
use Rattle.rad_packet.specs.Types.{type_framed_ip_address}
use Rattle.rad_packet.specs.declared.packet.ReadFault.{ReadFault}
use Rattle.rad_server.specs.Accounting.{class_number}
use Rattle.std.proofs.lemmas.Int.{ints}
use Rattle.std.proofs.lemmas.Bool.Decides.{nat_tests}
use Rattle.std.proofs.lemmas.Option.{none-some, slice_get_cases}
use Rattle.sqlite_value.specs.declared.value.Value.TheVariants.{Int}
use Rattle.sqlite_value.specs.Order.{Row, value_cmp}
use Rattle.sqlite_value.proofs.OrderLemmas.{value_cmp-Int}
use Rattle.sqlite_trees.specs.Tree.{has_rowid, put_row, rowid}
use Rattle.sqlite_trees.specs.View.{Finds}
use Rattle.rad_journal.specs.Records.{accepted, grant_read, occasion_of, record_of, records_from, report_read, with_record}
use Rattle.rad_journal.specs.Rows.{IsLog, entries_of, entry_back, entry_of, row_of, rows_from}
use Rattle.rad_journal.specs.declared.kept.Kept.{Kept}
use Rattle.rad_journal.specs.declared.register.Register.{Register}
use Rattle.rad_journal.specs.declared.register.Register.TheVariants.{Accounting, Grants}

lower : (m n : ℕ) → m < n → value_cmp (Int (pos m)) (Int (pos n)) ≡ Less
lower m n lt = value_cmp-Int (pos m) (pos n) ∙ grind (arith, ints, nat_tests)

is_it : (m n : ℕ) → m ≡ n → is_eq (value_cmp (Int (pos m)) (Int (pos n))) ≡ true
is_it m n same = ap is_eq (value_cmp-Int (pos m) (pos n)) ∙ grind (arith, ints, nat_tests)

above : (m n : ℕ) → n < m → is_eq (value_cmp (Int (pos m)) (Int (pos n))) ≡ false
above m n lt = ap is_eq (value_cmp-Int (pos m) (pos n)) ∙ grind (arith, ints, nat_tests)

below : (m n : ℕ) → m < n → is_eq (value_cmp (Int (pos m)) (Int (pos n))) ≡ false
below m n lt = ap is_eq (lower m n lt)

-- entries come back from their rows
pub entries_back : (n : ℕ) (entries : List Kept) → entries_of (rows_from n entries) ≡ entries
entries_back n [] = refl
entries_back n (entry ∷ entries) =
    ap (λ (e : Kept). e ∷ entries_of (rows_from (suc n) entries)) (entry_back n entry)
    ∙ ap (λ (l : List Kept). entry ∷ l) (entries_back (suc n) entries)

-- a row with the next rowid goes behind
pub put_last : (m n : ℕ) (entries : List Kept) (entry : Kept) → m ≡ n + length entries
    → put_row (row_of m entry) (rows_from n entries) ≡ rows_from n (entries ++ entry ∷ [])
put_last m n [] entry is = let same : m ≡ n = omega (arith, is) in ap (λ (k : ℕ). row_of k entry ∷ []) same
put_last m n (first ∷ entries) entry is =
    rw (lower n m (omega (arith, is)))
    (ap (λ (l : List Row). row_of n first ∷ l) (put_last m (suc n) entries entry (omega (arith, is))))

-- no row has a rowid below the first
none_below : (m n : ℕ) (entries : List Kept) → m < n → filter (has_rowid (pos m)) (rows_from n entries) ≡ []
none_below m n [] lt = refl
none_below m n (first ∷ entries) lt = rw (above n m lt) (none_below m (suc n) entries (omega (arith, lt)))

found_at : (m n k : ℕ) (entries : List Kept) (entry : Kept) → m ≡ n + k → slice_get entries k ≡ Some entry
    → filter (has_rowid (pos m)) (rows_from n entries) ≡ row_of m entry ∷ []
found_at m n k [] entry is has = absurd (none-some _ has)
found_at m n zero (first ∷ entries) entry is has =
    let same : n ≡ m = omega (arith, is) in
    let it : first ≡ entry = cc has in
    rw (is_it n m same) (ap (λ (l : List Row). row_of n first ∷ l) (none_below m (suc n) entries (omega (arith, same)))
    ∙ ap (λ (k : ℕ). row_of k first ∷ []) same ∙ ap (λ (e : Kept). row_of m e ∷ []) it)
found_at m n (suc k) (first ∷ entries) entry is has =
    rw (below n m (omega (arith, is))) (found_at m (suc n) k entries entry (omega (arith, is)) has)

none_at : (m n k : ℕ) (entries : List Kept) → m ≡ n + k → slice_get entries k ≡ None
    → filter (has_rowid (pos m)) (rows_from n entries) ≡ []
none_at m n k [] is has = refl
none_at m n zero (first ∷ entries) is has = absurd (none-some _ (sym has))
none_at m n (suc k) (first ∷ entries) is has =
    rw (below n m (omega (arith, is))) (none_at m (suc n) k entries (omega (arith, is)) has)

-- the row that is found is that of the entry
pub read_row : (m k : ℕ) (rows : List Row) (row : Row) → IsLog rows → m ≡ 1 + k → Finds rows (pos m) row true
    → (entry : Kept) × (slice_get (entries_of rows) k ≡ Some entry) × (row ≡ row_of m entry)
read_row m k rows row log is finds = ⊎_elim
    (λ has.
    let found = subst (λ (l : List Row). filter (has_rowid (pos m)) l ≡ row_of m has.0 ∷ []) (sym log)
    (found_at m 1 k (entries_of rows) has.0 is has.2) in
    let same : row ≡ row_of m has.0 = cc (found, finds) in
    (has.0, has.2, same))
    (λ none.
    let found = subst (λ (l : List Row). filter (has_rowid (pos m)) l ≡ []) (sym log) (none_at m 1 k (entries_of rows) is none.1) in
    absurd (cc (found, finds)))
    (slice_get_cases (entries_of rows) k).1

pub read_some : (m k : ℕ) (rows : List Row) (row : Row) → IsLog rows → m ≡ 1 + k → Finds rows (pos m) row true
    → Some (entry_of row) ≡ slice_get (entries_of rows) k
read_some m k rows row log is finds =
    let (entry, has, same) = read_row m k rows row log is finds in
    ap (λ (r : Row). Some (entry_of r)) same ∙ ap (λ (e : Kept). Some e) (entry_back m entry) ∙ sym has

pub read_none : (m k : ℕ) (rows : List Row) (row : Row) → IsLog rows → m ≡ 1 + k → Finds rows (pos m) row false
    → None ≡ slice_get (entries_of rows) k
read_none m k rows row log is finds = ⊎_elim
    (λ has.
    let found = subst (λ (l : List Row). filter (has_rowid (pos m)) l ≡ row_of m has.0 ∷ []) (sym log)
    (found_at m 1 k (entries_of rows) has.0 is has.2) in
    absurd (cc (found, finds)))
    (λ none. sym none.1)
    (slice_get_cases (entries_of rows) k).1

-- the rows of one entry more
pub rows_push : (m n : ℕ) (entries : List Kept) (entry : Kept) → m ≡ n + length entries
    → rows_from n (entries ++ entry ∷ []) ≡ rows_from n entries ++ row_of m entry ∷ []
rows_push m n [] entry is = let same : n ≡ m = omega (arith, is) in ap (λ (k : ℕ). row_of k entry ∷ []) same
rows_push m n (first ∷ entries) entry is =
    ap (λ (l : List Row). row_of n first ∷ l) (rows_push m (suc n) entries entry (omega (arith, is)))

-- ---- records

-- a record has the number of its entry as its rowid
report_number : (m : ℕ) (entry : Kept) (r : Result Packet ReadFault)
    → IfSome (report_read m entry r) (λ row. rowid row ≡ Int (pos m))
report_number m entry (Err fault) = tt
report_number m entry (Ok packet) = at (packet.code == code_accounting_request)
  where
    at : (b : Bool) → IfSome (if b then Some (report_row (occasion_of m entry entry.session) packet.attributes) else None)
        (λ row. rowid row ≡ Int (pos m))
    at true = refl
    at false = tt

grant_number : (m : ℕ) (entry : Kept) (r : Result Packet ReadFault) (said : Option (List Attribute))
    → IfSome (grant_read m entry r said) (λ row. rowid row ≡ Int (pos m))
grant_number m entry (Err fault) said = tt
grant_number m entry (Ok packet) None = tt
grant_number m entry (Ok packet) (Some list) = at (class_number list)
  where
    at : (session : Option ℕ)
        → IfSome (option_map (λ s. grant_row (occasion_of m entry (Some s)) (first_integer type_framed_ip_address list)
        packet.attributes) session) (λ row. rowid row ≡ Int (pos m))
    at (Some session) = refl
    at None = tt

has_number : (register : Register) (m : ℕ) (entry : Kept) → IfSome (record_of register m entry) (λ row. rowid row ≡ Int (pos m))
has_number Accounting m entry = report_number m entry (packet_of entry.octets)
has_number Grants m entry = grant_number m entry (packet_of entry.octets) (accepted entry.answer)

-- a row goes behind one with a lower rowid
put_behind : (m n : ℕ) (first new : Row) (rows : List Row) → n < m → rowid first ≡ Int (pos n) → rowid new ≡ Int (pos m)
    → put_row new (first ∷ rows) ≡ first ∷ put_row new rows
put_behind m n first new rows lt low high =
    ap (λ o. match_ordering o (first ∷ put_row new rows) (new ∷ rows) (new ∷ first ∷ rows))
    (ap (λ v. value_cmp v (rowid new)) low ∙ ap (λ v. value_cmp (Int (pos n)) v) high ∙ lower n m lt)

-- a record with the next number goes behind
pub record_last : (register : Register) (m n : ℕ) (entries : List Kept) (entry : Kept) → m ≡ n + length entries
    → with_record (record_of register m entry) (records_from register n entries) ≡ records_from register n (entries ++ entry ∷ [])
record_last register m n [] entry is =
    let same : m ≡ n = omega (arith, is) in
    at (record_of register m entry) ∙ ap (λ k. option_to_list (record_of register k entry) ++ []) same
  where
    at : (o : Option Row) → with_record o [] ≡ option_to_list o ++ []
    at None = refl
    at (Some row) = refl
record_last register m n (first ∷ entries) entry is =
    behind (record_of register m entry) (record_of register n first) (has_number register m entry) (has_number register n first)
    ∙ ap (λ (l : List Row). option_to_list (record_of register n first) ++ l)
    (record_last register m (suc n) entries entry (omega (arith, is)))
  where
    behind : (new old : Option Row) → IfSome new (λ row. rowid row ≡ Int (pos m)) → IfSome old (λ row. rowid row ≡ Int (pos n))
        → with_record new (option_to_list old ++ records_from register (suc n) entries)
        ≡ option_to_list old ++ with_record new (records_from register (suc n) entries)
    behind None old high low = refl
    behind (Some new) None high low = refl
    behind (Some new) (Some row) high low =
        put_behind m n row new (records_from register (suc n) entries) (omega (arith, is)) low high

-- the records of entries and one more
pub records_push : (register : Register) (m n : ℕ) (entries : List Kept) (entry : Kept) → m ≡ n + length entries
    → records_from register n (entries ++ entry ∷ [])
    ≡ records_from register n entries ++ option_to_list (record_of register m entry)
records_push register m n [] entry is =
    let same : n ≡ m = omega (arith, is) in
    append-nil (option_to_list (record_of register n entry)) ∙ ap (λ k. option_to_list (record_of register k entry)) same
records_push register m n (first ∷ entries) entry is =
    ap (λ (l : List Row). option_to_list (record_of register n first) ++ l)
    (records_push register m (suc n) entries entry (omega (arith, is)))
    ∙ sym (append_assoc (option_to_list (record_of register n first)) (records_from register (suc n) entries)
    (option_to_list (record_of register m entry)))
