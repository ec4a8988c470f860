-- What the rows of clients and the index of their networks hold, as the list of clients says it.
use Rattle.std.proofs.Common.{◌≡◌, ℕ, ◌^◌, nat_eq, ◌<◌, ◌≤◌, ◌==◌, ◌&&◌, ◌||◌, Bool, true, false, not, List, [], ◌∷◌, ◌++◌, length}
use Rattle.std.proofs.Common.{get_or, map, refl, ap, sym, ◌∙◌, arith, Option, Some, None, inl, inr}
use Rattle.std.specs.Prelude.{All, Contains, IsTrue, is_some, nat_le, if◌then◌else◌}
use Rattle.std.specs.List.{position, prefix_len, list_any}
use Rattle.std.proofs.lemmas.Bool.{and_from, and_left, and_parts, both_ways, cases_lt, cases_order, false_from_ne_true, le-leb}
use Rattle.std.proofs.lemmas.Bool.{leb-true, not_from_false, or_cases, or_left, or_right, not-true, true≢false}
use Rattle.std.proofs.lemmas.List.{get_or_default, length-map, get_or-map, length_push}
use Rattle.std.proofs.lemmas.List.Elements.{All-head, All-push, All-tail, All-weaker}
use Rattle.std.proofs.lemmas.List.Folds.{list_any_at, list_any_none}
use Rattle.std.proofs.lemmas.List.Quantifiers.{position-Some}
use Rattle.std.proofs.lemmas.List.Sums.{AllPass-from_list_all, list_all-from_AllPass}
use Rattle.rad_auth.specs.Clients.{Client, client_at, client_place, clients_max, has_network, holds, is_greatest, network_fits}
use Rattle.rad_auth.specs.ClientRows.{HasNetwork, IsGreatestFirst, KeepsClients, client_key, network_key, row_client, row_clients}
use Rattle.rad_auth.specs.declared.client.ClientRow.{ClientRow}
use Rattle.rad_auth.proofs.NetworkLemmas.{holds-key, key-holds, key-is}

-- the front of a mapped list that passes
prefix_len-map : {A B : Type 0} (p : B → Bool) (f : A → B) (xs : List A) → prefix_len p (map f xs) ≡ prefix_len (λ x. p (f x)) xs
prefix_len-map p f [] = refl
prefix_len-map p f (x ∷ xs) = rw (prefix_len-map p f xs)

-- the place in a mapped list
position-map : {A B : Type 0} (p : B → Bool) (f : A → B) (xs : List A) → position p (map f xs) ≡ position (λ x. p (f x)) xs
position-map p f xs = rw (prefix_len-map (λ y. not (p y)) f xs, length-map xs f)

-- a mapped list with one more after it
pub map-push : {A B : Type 0} (f : A → B) (xs : List A) (x : A) → map f (xs ++ x ∷ []) ≡ map f xs ++ f x ∷ []
map-push f [] x = refl
map-push f (y ∷ ys) x = ap (λ zs. f y ∷ zs) (map-push f ys x)

is_some-step : {A : Type 0} (p : A → Bool) (x : A) (xs : List A) (b : Bool) → p x ≡ b → is_some (position p xs) ≡ list_any p xs
    → is_some (position p (x ∷ xs)) ≡ list_any p (x ∷ xs)
is_some-step p x xs true here rest = grind (arith, here)
is_some-step p x xs false other rest = grind (arith, other, rest)

-- a place is found where one of the list passes
is_some-position : {A : Type 0} (p : A → Bool) (xs : List A) → is_some (position p xs) ≡ list_any p xs
is_some-position p [] = refl
is_some-position p (x ∷ xs) = is_some-step p x xs (p x) refl (is_some-position p xs)

-- no place is found where none of the list passes, and the other way round
None-position : {A : Type 0} (p : A → Bool) (xs : List A) → position p xs ≡ None → (k : ℕ) (d : A) → k < length xs
    → p (get_or xs k d) ≡ false
None-position p xs none k d within =
    false_from_ne_true _ (λ yes. true≢false (sym (list_any_at p xs k d within yes) ∙ sym (is_some-position p xs) ∙ ap is_some none))

none_some : {A : Type 0} (o : Option A) → is_some o ≡ false → o ≡ None
none_some None none = refl
none_some (Some x) none = absurd (true≢false none)

position-None : {A : Type 0} (p : A → Bool) (xs : List A) → All (λ x. p x ≡ false) xs → position p xs ≡ None
position-None p xs none = none_some (position p xs) (is_some-position p xs ∙ list_any_none p xs none)

-- the place of the first that passes
position-is : {A : Type 0} (p : A → Bool) (xs : List A) (i : ℕ) (d : A) → i < length xs → p (get_or xs i d) ≡ true
    → ((k : ℕ) → k < i → p (get_or xs k d) ≡ false) → position p xs ≡ Some i
position-is p xs i d within passes earlier = at (position p xs) refl
  where
    at : (o : Option ℕ) → position p xs ≡ o → position p xs ≡ Some i
    at None none = absurd (both_ways _ (None-position p xs none i d within) passes)
    at (Some j) found =
        let first = position-Some p xs j d found in
        elim (cases_order j i) [
          | inl same ↦ found ∙ ap Some same
          | inr apart ↦ elim apart [
            | inl before ↦ absurd (both_ways _ (earlier j before) first.1)
            | inr after ↦ absurd (both_ways _ (first.2 i after) passes)
          ]
        ]

list_any-map : {A B : Type 0} (p : B → Bool) (f : A → B) (xs : List A) → list_any p (map f xs) ≡ list_any (λ x. p (f x)) xs
list_any-map p f [] = refl
list_any-map p f (x ∷ xs) = ap (λ rest. p (f x) || rest) (list_any-map p f xs)

-- tests that agree on each of the list
list_any-agree : {A : Type 0} (p q : A → Bool) (xs : List A) → All (λ x. p x ≡ q x) xs → list_any p xs ≡ list_any q xs
list_any-agree p q [] agree = refl
list_any-agree p q (x ∷ xs) agree =
    ap (λ first. first || list_any p xs) (All-head (λ y. p y ≡ q y) x xs agree)
    ∙ ap (λ rest. q x || rest) (list_any-agree p q xs (All-tail (λ y. p y ≡ q y) x xs agree))

-- ---- rows

-- the client at a row's place
pub client-at_row : (rows : List ClientRow) (i : ℕ) (row : ClientRow) → i < length rows → row ≡ get_or rows i row
    → row_client row ≡ client_at (row_clients rows) i
client-at_row rows i row within read = ap row_client read ∙ sym (get_or-map row_client rows i row _ within)

-- the row of a client
abbrev client_row : Client → ClientRow
client_row client = record {
  address = client.address;
  prefix = client.prefix;
  secret = client.secret;
  require_message_authenticator = client.require_message_authenticator;
}

rows-clients : (rows : List ClientRow) → map client_row (row_clients rows) ≡ rows
rows-clients [] = refl
rows-clients (row ∷ rows) = ap (λ rest. row ∷ rest) (rows-clients rows)

-- rows that hold equal clients are equal
pub row_clients-injective : (rows others : List ClientRow) → row_clients rows ≡ row_clients others → rows ≡ others
row_clients-injective rows others same = sym (rows-clients rows) ∙ ap (map client_row) same ∙ rows-clients others

-- ---- the client of a source

-- what has the greatest prefix
greatest-at : (clients : List Client) (source prefix : ℕ) → is_greatest clients source prefix ≡ true → (k : ℕ) (d : Client)
    → k < length clients
    → holds (get_or clients k d) source ≡ true → (get_or clients k d).prefix ≤ prefix
greatest-at clients source prefix greatest k d within held =
    let passes = AllPass-from_list_all (λ client. not (holds client source) || nat_le client.prefix prefix) clients greatest k d
    within in
    elim (or_cases _ _ passes) [
      | inl other ↦ absurd (both_ways _ (not-true _ other) held)
      | inr low ↦ leb-true (get_or clients k d).prefix prefix low
    ]

greatest-from : (clients : List Client) (source prefix : ℕ)
    → ((k : ℕ) (d : Client) → k < length clients → holds (get_or clients k d) source ≡ true → (get_or clients k d).prefix ≤ prefix)
    → is_greatest clients source prefix ≡ true
greatest-from clients source prefix low =
    list_all-from_AllPass (λ client. not (holds client source) || nat_le client.prefix prefix) clients
    (λ k d within. one (get_or clients k d) (holds (get_or clients k d) source) refl (low k d within))
  where
    one : (client : Client) (b : Bool) → holds client source ≡ b → (holds client source ≡ true → client.prefix ≤ prefix)
        → (not (holds client source) || nat_le client.prefix prefix) ≡ true
    one client true held low =
        or_right (not (holds client source)) (nat_le client.prefix prefix) (le-leb client.prefix prefix (low held))
    one client false other low =
        or_left (not (holds client source)) (nat_le client.prefix prefix) (not_from_false (holds client source) other)

-- the index at a source and a prefix gives the first client with their key
key_place : (networks prefixes : List ℕ) (clients : List Client) (key : ℕ) → KeepsClients networks prefixes clients
    → position (nat_eq key) networks ≡ position (λ client. nat_eq key (client_key client)) clients
key_place networks prefixes clients key keeps =
    ap (position (nat_eq key)) keeps.in_order ∙ position-map (nat_eq key) client_key clients

-- where no client was found at the first prefixes, one whose network holds the source has a later prefix
later : (networks prefixes : List ℕ) (clients : List Client) (source i : ℕ) → KeepsClients networks prefixes clients
    → ((j : ℕ) → j < i → position (nat_eq (network_key source (get_or prefixes j 0))) networks ≡ None)
    → (k : ℕ) (d : Client) → k < length clients → holds (get_or clients k d) source ≡ true
    → (j : ℕ) × (i ≤ j) × (j < length prefixes) × (get_or prefixes j 0 ≡ (get_or clients k d).prefix)
later networks prefixes clients source i keeps none k d within held =
    let client : Client = get_or clients k d in
    let tried : Contains prefixes client.prefix = keeps.tried k d within in
    let j = tried.0 in
    let has : get_or prefixes j 0 ≡ client.prefix = get_or_default prefixes j 0 client.prefix tried.1 ∙ tried.2 in
    elim (cases_lt j i) [
      | inl before ↦
          let key = network_key source (get_or prefixes j 0) in
          let missing = None-position (λ other. nat_eq key (client_key other)) clients
          (sym (key_place networks prefixes clients key keeps) ∙ none j before) k d within in
          absurd (both_ways _ missing (holds-key client source (get_or prefixes j 0) (sym has) held))
      | inr after ↦ (j, after, tried.1, has)
    ]

pub place_nowhere : (networks prefixes : List ℕ) (clients : List Client) (source : ℕ) → KeepsClients networks prefixes clients
    → ((j : ℕ) → j < length prefixes → position (nat_eq (network_key source (get_or prefixes j 0))) networks ≡ None)
    → client_place clients source ≡ None
place_nowhere networks prefixes clients source keeps none =
    position-None (λ client. holds client source && is_greatest clients source client.prefix) clients
    (λ k d within. and_left (holds (get_or clients k d) source) _ (false_from_ne_true _ (λ held.
    let at = later networks prefixes clients source (length prefixes) keeps none k d within held in
    absurd (omega (arith, at.1, at.2)))))

pub place_at : (networks prefixes : List ℕ) (clients : List Client) (source i place : ℕ) → KeepsClients networks prefixes clients
    → source < 2 ^ 32 → i < length prefixes
    → ((j : ℕ) → j < i → position (nat_eq (network_key source (get_or prefixes j 0))) networks ≡ None)
    → position (nat_eq (network_key source (get_or prefixes i 0))) networks ≡ Some place → client_place clients source ≡ Some place
place_at networks prefixes clients source i place keeps below within none found =
    let nobody : Client = client_at [] 0 in
    let prefix = get_or prefixes i 0 in
    let key = network_key source prefix in
    let first = position-Some (λ client. nat_eq key (client_key client)) clients place nobody
    (sym (key_place networks prefixes clients key keeps) ∙ found) in
    let client : Client = get_or clients place nobody in
    let same = key-holds client source prefix (keeps.fits place nobody first.0) below first.1 in
    let low = λ (k : ℕ) (d : Client) (there : k < length clients) (held : holds (get_or clients k d) source ≡ true).
    lower networks prefixes clients source i keeps within none k d there held in
    let greatest : is_greatest clients source client.prefix ≡ true =
    greatest-from clients source client.prefix (λ k d there held. omega (arith, low k d there held, same.0)) in
    position-is (λ other. holds other source && is_greatest clients source other.prefix) clients place nobody first.0
    (and_from _ _ same.1 greatest)
    (λ k before. false_from_ne_true _ (λ yes.
    let parts = and_parts (holds (get_or clients k nobody) source) _ yes in
    let there : k < length clients = omega (arith, first.0, before) in
    let above = greatest-at clients source (get_or clients k nobody).prefix parts.1 place nobody first.0 same.1 in
    let under = low k nobody there parts.0 in
    let level : (get_or clients k nobody).prefix ≡ prefix = omega (arith, above, under, same.0) in
    both_ways _ (first.2 k before) (holds-key (get_or clients k nobody) source prefix level parts.0)))
  where
    lower : (networks prefixes : List ℕ) (clients : List Client) (source i : ℕ) → KeepsClients networks prefixes clients
        → i < length prefixes
        → ((j : ℕ) → j < i → position (nat_eq (network_key source (get_or prefixes j 0))) networks ≡ None)
        → (k : ℕ) (d : Client) → k < length clients → holds (get_or clients k d) source ≡ true
        → (get_or clients k d).prefix ≤ get_or prefixes i 0
    lower networks prefixes clients source i keeps within none k d there held =
        let at = later networks prefixes clients source i keeps none k d there held in
        let ordered = keeps.greatest_first.in_order i at.0 0 at.1 at.2 in
        let low = keeps.greatest_first.below at.0 0 at.2 in
        omega (arith, ordered, low, at.3)

-- ---- the networks of clients

pub has_network-key : (networks prefixes : List ℕ) (clients : List Client) (address prefix : ℕ)
    → KeepsClients networks prefixes clients
    → address < 2 ^ 32 → IsTrue (network_fits address prefix)
    → list_any (nat_eq (network_key address prefix)) networks ≡ has_network clients address prefix
has_network-key networks prefixes clients address prefix keeps below fits =
    ap (list_any (nat_eq (network_key address prefix))) keeps.in_order
    ∙ list_any-map (nat_eq (network_key address prefix)) client_key clients
    ∙ list_any-agree (λ client. nat_eq (network_key address prefix) (client_key client))
    (λ client. (client.address == address) && (client.prefix == prefix)) clients
    (All-weaker HasNetwork _ (λ client network. key-is client address prefix network below fits) clients keeps.fits)

-- what is kept after one more client, whose network is new
pub keeps-push : (networks keys prefixes more : List ℕ) (clients : List Client) (client : Client)
    → KeepsClients networks prefixes clients
    → HasNetwork client → has_network clients client.address client.prefix ≡ false → length clients < clients_max
    → keys ≡ (if list_any (nat_eq (client_key client)) networks then networks else networks ++ client_key client ∷ [])
    → Contains more client.prefix → ((other : ℕ) → Contains prefixes other → Contains more other) → IsGreatestFirst more
    → KeepsClients keys more (clients ++ client ∷ [])
keeps-push networks keys prefixes more clients client keeps network new room inserted added kept greatest_first =
    let absent : list_any (nat_eq (client_key client)) networks ≡ false =
    has_network-key networks prefixes clients client.address client.prefix keeps network.below network.fits ∙ new in
    record {
      in_order = inserted ∙ (rw absent (ap (λ (ks : List ℕ). ks ++ client_key client ∷ []) keeps.in_order))
          ∙ sym (map-push client_key clients client);
      fits = All-push HasNetwork clients client keeps.fits network;
      tried = All-push (λ other. Contains more other.prefix) clients client
          (All-weaker (λ other. Contains prefixes other.prefix) (λ other. Contains more other.prefix) (λ other. kept other.prefix)
          clients keeps.tried) added;
      greatest_first = greatest_first;
      few = rw length_push (omega (arith, room));
    }
