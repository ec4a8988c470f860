-- The entries of a list that are left to read, for every part.
use Rattle.std.proofs.Common.{◌≡◌, ℕ, ◌+◌, ◌<◌, ◌≤◌, List, [], ◌∷◌, ◌++◌, length, get_or, drop, Some, Result, Ok, Err, refl, ap}
use Rattle.std.proofs.Common.{sym, ◌∙◌, arith, inl, inr}
use Rattle.std.specs.Prelude.{◌⊎◌, All, unwrap_or}
use Rattle.std.specs.Result.{result_ok}
use Rattle.std.proofs.lemmas.Bool.{lt-ltb, le-ltb}
use Rattle.std.proofs.lemmas.List.{drop_all, length_push}
use Rattle.std.proofs.lemmas.List.Elements.{All-append, All-nil, All-cons}
use Rattle.toml.specs.Data.{Data, Items, Members, as_array, item, no_items}
use Rattle.toml.specs.View.{view, items_view}
use Rattle.toml.specs.declared.value.Value.{Value}
use Rattle.toml.proofs.Views.{items_view-drop}
use Rattle.rad_packet.specs.Ladders.{◌>>=◌}
use Rattle.rad_config_fault.specs.declared.config_fault.Part.{Part}
use Rattle.rad_config_fault.specs.declared.config_fault.ConfigFault.{ConfigFault}
use Rattle.rad_config_fault.specs.declared.config_fault.ConfigFault.TheVariants.{NoMemory, TooMany}
use Rattle.rad_config.specs.Entries.{EntryData, and_entry, entry_of, entries_from, items_at, items_in, list_of, count_items}

module _ {A : Type 0} (part : Part) (read : List A → EntryData → Result A ConfigFault) (values : List Value) (i : ℕ) (value : Value)
    (earlier : List A) (within : i < length values) (found : value ≡ get_or values i value) where
  -- an entry that is read
  pub entries_from-more : (entries : List A) → and_entry part read (i + 1) earlier (view value) ≡ Ok entries
      → entries_from part read (i + 1) earlier (items_view (drop i values))
      ≡ entries_from part read (i + 1 + 1) entries (items_view (drop (i + 1) values))
  unfolding entries_from
  entries_from-more entries is_read = rw (items_view-drop values i value within, ← found, is_read)

  -- an entry that is refused
  pub entries_from-refused : (fault : ConfigFault) (total : Result (List A) ConfigFault)
      → (fault ≡ NoMemory) ⊎ (and_entry part read (i + 1) earlier (view value) ≡ Err fault)
      → entries_from part read (i + 1) earlier (items_view (drop i values)) ≡ total → (fault ≡ NoMemory) ⊎ (total ≡ Err fault)
  unfolding entries_from
  entries_from-refused fault total (inl memory) so_far = inl memory
  entries_from-refused fault total (inr refused) so_far =
      let here : entries_from part read (i + 1) earlier (items_view (drop i values)) ≡ Err fault =
      rw (items_view-drop values i value within, ← found, refused) in
      inr (sym so_far ∙ here)

-- one more entry is one more
pub and_entry-length : {A : Type 0} (part : Part) (read : List A → EntryData → Result A ConfigFault) (index : ℕ) (earlier : List A)
    (d : Data) (entries : List A)
    → and_entry part read index earlier d ≡ Ok entries → length entries ≡ length earlier + 1
unfolding and_entry
and_entry-length {A} part read index earlier d entries is_read = of_entry (entry_of part index d) is_read
  where
    of_value : (value : Result A ConfigFault) → (value >>= λ a. Ok (earlier ++ a ∷ [])) ≡ Ok entries
        → length entries ≡ length earlier + 1
    of_value (Ok a) is = rw (← ap (λ (r : Result (List A) ConfigFault). unwrap_or (result_ok r) []) is) (length_push earlier a)
    of_value (Err fault) is = absurd cc

    of_entry : (entry : Result EntryData ConfigFault) → (entry >>= λ e. read earlier e >>= λ a. Ok (earlier ++ a ∷ [])) ≡ Ok entries
        → length entries ≡ length earlier + 1
    of_entry (Ok e) is = of_value (read earlier e) is
    of_entry (Err fault) is = absurd cc

-- as many are read as there are
entries_from-length : {A : Type 0} (part : Part) (read : List A → EntryData → Result A ConfigFault) (index : ℕ) (earlier : List A)
    (ds : Items) (entries : List A)
    → entries_from part read index earlier ds ≡ Ok entries → length entries ≡ length earlier + count_items ds
unfolding entries_from
entries_from-length part read index earlier no_items entries is = omega (arith, ap (λ r. length (unwrap_or (result_ok r) [])) is)
entries_from-length {A} part read index earlier (item d ds) entries is =
    of_first (and_entry part read index earlier d) refl is (λ more. entries_from-length part read (index + 1) more ds entries)
  where
    of_first : (first : Result (List A) ConfigFault) → and_entry part read index earlier d ≡ first
        → (first >>= λ more. entries_from part read (index + 1) more ds) ≡ Ok entries
        → ((more : List A) → entries_from part read (index + 1) more ds ≡ Ok entries
        → length entries ≡ length more + count_items ds)
        → length entries ≡ length earlier + (count_items ds + 1)
    of_first (Ok more) first_is rest counted =
        omega (arith, counted more rest, and_entry-length part read index earlier d more first_is)
    of_first (Err fault) first_is rest counted = absurd cc

-- two readings of one list read as many
pub same_lengths : {A B : Type 0} (part : Part) (most : ℕ) (read : List A → EntryData → Result A ConfigFault)
    (other : List B → EntryData → Result B ConfigFault) (members : Members) (entries : List A) (others : List B)
    → list_of part most read members ≡ Ok entries → list_of part most other members ≡ Ok others → length others ≡ length entries
unfolding list_of
same_lengths {A} {B} part most read other members entries others is is' = of_items (items_at part most members) refl is is'
  where
    of_items : (ds : Result Items ConfigFault) → items_at part most members ≡ ds
        → (ds >>= λ ds. entries_from part read 1 [] ds) ≡ Ok entries → (ds >>= λ ds. entries_from part other 1 [] ds) ≡ Ok others
        → length others ≡ length entries
    of_items (Ok ds) at first second =
        omega (arith, entries_from-length part read 1 [] ds entries first, entries_from-length part other 1 [] ds others second)
    of_items (Err fault) at first second = absurd cc

-- no entry is left
pub entries_from-all : {A : Type 0} (part : Part) (read : List A → EntryData → Result A ConfigFault) (values : List Value)
    (i index : ℕ) (earlier : List A)
    → length values ≤ i → entries_from part read index earlier (items_view (drop i values)) ≡ Ok earlier
unfolding entries_from
entries_from-all part read values i index earlier past = rw (drop_all i values past)

pub count_items-view : (values : List Value) → count_items (items_view values) ≡ length values
count_items-view [] = refl
count_items-view (value ∷ values) = omega (arith, count_items-view values)

-- more entries than there may be
pub items_in-many : (part : Part) (most : ℕ) (d : Data) (values : List Value) → as_array d ≡ Some (items_view values)
    → most < length values → items_in part most (Some d) ≡ Err (TooMany part)
unfolding items_in
items_in-many part most d values is_array many = rw (is_array, count_items-view values, lt-ltb _ _ many) refl

-- entries that are few enough
pub items_in-few : (part : Part) (most : ℕ) (d : Data) (values : List Value) → as_array d ≡ Some (items_view values)
    → length values ≤ most → items_in part most (Some d) ≡ Ok (items_view values)
unfolding items_in
items_in-few part most d values is_array few = rw (is_array, count_items-view values, le-ltb _ _ few) refl

-- a fact about each entry so far and about the next
pub All-push : {A : Type 0} (P : A → Type 0) (xs : List A) (x : A) → All P xs → P x → All P (xs ++ x ∷ [])
All-push P xs x all next = All-append P xs (x ∷ []) all (All-cons P x [] next (All-nil P))
