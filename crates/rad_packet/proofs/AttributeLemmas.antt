-- Octets and the attributes that they are: each list of attributes has one spelling, and each spelling one list.
use Rattle.std.proofs.Common.{◌≡◌, ℕ, zero, suc, ◌+◌, ◌-◌, ◌<◌, ◌≤◌, Bool, true, false, cond, ltb, eqb, ◌||◌, ◌⊎◌, List, [], ◌∷◌}
use Rattle.std.proofs.Common.{◌++◌, length, take, drop, get_or, Option, Some, None, refl, sym, ap, subst, ◌∙◌, arith, inl, inr}
use Rattle.std.specs.Prelude.{option_map, unwrap_or, is_some}
use Rattle.std.specs.List.{AllByRecursion}
use Rattle.std.proofs.lemmas.Bool.{ltb-false, le-ltb, lt-ltb}
use Rattle.std.proofs.lemmas.List.{take_at, drop_at, take-append-drop, length-append, length-take, length-drop, get_or-drop}
use Rattle.std.proofs.lemmas.List.{flat_map_more}
use Rattle.std.proofs.lemmas.List.Concat.{flat_map-append}
use Rattle.std.proofs.lemmas.List.Sums.{count_by-le-length}
use Rattle.rad_packet.specs.Attributes.{Attribute, IsAttribute, AreAttributes, IsFirst, attribute_octets, attributes_octets}
use Rattle.rad_packet.specs.Attributes.{attributes_within, attributes_of, attributes_in, count, size}

-- ---- what was spelled is read again

-- two octets at the front, with a Length that fits, are the front of an attribute
pub within-attribute : (most kind : ℕ) (value rest : List ℕ)
    → attributes_within (suc most) (kind ∷ (length value + 2) ∷ value ++ rest)
    ≡ option_map (λ list. record { kind = kind; value = value } ∷ list) (attributes_within most rest)
unfolding attributes_within
within-attribute most kind value rest =
    let low : ltb (length value + 2) 2 ≡ false = le-ltb _ _ (omega arith) in
    let high : ltb (length (value ++ rest) + 2) (length value + 2) ≡ false = le-ltb _ _ (omega (arith, length-append value rest)) in
    let len : length value + 2 - 2 ≡ length value = omega arith in
    rw (low, high, len, take_at value rest (length value) refl, drop_at value rest (length value) refl) refl

pub within-nil : (most : ℕ) → attributes_within most [] ≡ Some []
unfolding attributes_within
within-nil zero = refl
within-nil (suc most) = refl

pub within-spelled : (most : ℕ) (list : List Attribute) → length (attributes_octets list) ≤ most
    → attributes_within most (attributes_octets list) ≡ Some list
within-spelled most [] le = within-nil most
within-spelled zero (a ∷ list) le = absurd (omega arith)
within-spelled (suc most) (a ∷ list) le =
    let below : length (attributes_octets list) ≤ most = omega (arith, length-append a.value (attributes_octets list)) in
    within-attribute most a.kind a.value (attributes_octets list)
    ∙ ap (option_map (λ others. a ∷ others)) (within-spelled most list below)

-- the attributes that a spelling is
pub of-spelled : (list : List Attribute) → attributes_of (attributes_octets list) ≡ Some list
of-spelled list = within-spelled (length (attributes_octets list)) list (omega arith)

pub in-spelled : (octets : List ℕ) (list : List Attribute) → octets ≡ attributes_octets list → attributes_in octets ≡ list
in-spelled octets list e = ap attributes_in e ∙ ap (λ found. unwrap_or found []) (of-spelled list)

-- ---- what was read was spelled so

abbrev pub IsOctets : List ℕ → Type 0
IsOctets octets = (i : ℕ) → get_or octets i 0 < 256

pub IsOctets-drop : (n : ℕ) (octets : List ℕ) → IsOctets octets → IsOctets (drop n octets)
IsOctets-drop n octets h i = rw get_or-drop (h (n + i))

-- a test that was passed
passed : {A : Type 0} (b c : Bool) (o : Option A) (x : A) → cond (b || c) None o ≡ Some x → (b ≡ false) × (c ≡ false) × (o ≡ Some x)
passed true c o x e = absurd cc
passed false true o x e = absurd cc
passed false false o x e = (refl, refl, e)

mapped : {A B : Type 0} (f : A → B) (o : Option A) (y : B) → option_map f o ≡ Some y → (x : A) × (o ≡ Some x) × (f x ≡ y)
mapped f None y e = absurd cc
mapped f (Some x) y e = (x, refl, cc)

pub within-spells : (most : ℕ) (octets : List ℕ) (list : List Attribute) → IsOctets octets
    → attributes_within most octets ≡ Some list → AreAttributes octets list
unfolding attributes_within
within-spells zero [] list fits e = let h : [] ≡ list = cc in
    subst (λ (l : List Attribute). AreAttributes [] l) h (record { spelled = refl; each = tt })
within-spells (suc most) [] list fits e = let h : [] ≡ list = cc in
    subst (λ (l : List Attribute). AreAttributes [] l) h (record { spelled = refl; each = tt })
within-spells zero (kind ∷ rest) list fits e = absurd cc
within-spells (suc most) (kind ∷ []) list fits e = absurd cc
within-spells (suc most) (kind ∷ len ∷ rest) list fits e =
    let tests = passed (ltb len 2) (ltb (length rest + 2) len) _ list e in
    let low : 2 ≤ len = ltb-false _ _ tests.0 in
    let high : len ≤ length rest + 2 = ltb-false _ _ tests.1 in
    let others = mapped (λ others. record { kind = kind; value = take (len - 2) rest } ∷ others)
    (attributes_within most (drop (len - 2) rest)) list tests.2 in
    let later = within-spells most (drop (len - 2) rest) others.0 (IsOctets-drop (suc (suc (len - 2))) (kind ∷ len ∷ rest) fits)
    others.1 in
    let small : len < 256 = fits 1 in
    let kind_fits : kind < 256 = fits 0 in
    let value_len : length (take (len - 2) rest) ≡ len - 2 = omega (arith, length-take (len - 2) rest) in
    let len_is : length (take (len - 2) rest) + 2 ≡ len = omega arith in
    let first : Attribute = record { kind = kind; value = take (len - 2) rest } in
    let spelled : kind ∷ len ∷ rest ≡ attributes_octets (first ∷ others.0) =
    ap (λ (xs : List ℕ). kind ∷ len ∷ xs) (sym (take-append-drop (len - 2) rest))
    ∙ ap (λ (xs : List ℕ). kind ∷ len ∷ take (len - 2) rest ++ xs) later.spelled
    ∙ ap (λ (n : ℕ). kind ∷ n ∷ take (len - 2) rest ++ attributes_octets others.0) (sym len_is) in
    subst (λ (l : List Attribute). AreAttributes (kind ∷ len ∷ rest) l) others.2
    (record { spelled = spelled; each = (record { kind = kind_fits; value = omega arith }, later.each) })

-- ---- how many attributes are allowed makes no difference, where there may be one for each octet

pub within-enough : (most : ℕ) (octets : List ℕ) → length octets ≤ most
    → attributes_within most octets ≡ attributes_within (suc most) octets
unfolding attributes_within
within-enough zero [] le = refl
within-enough (suc most) [] le = refl
within-enough zero (kind ∷ rest) le = absurd (omega arith)
within-enough (suc most) (kind ∷ []) le = refl
within-enough (suc most) (kind ∷ len ∷ rest) le =
    let below : length (drop (len - 2) rest) ≤ most = omega (arith, length-drop (len - 2) rest) in
    ap (λ (o : Option (List Attribute)). cond (ltb len 2 || ltb (length rest + 2) len) None
    (option_map (λ others. record { kind = kind; value = take (len - 2) rest } ∷ others) o))
    (within-enough most (drop (len - 2) rest) below)

pub within-more : (most more : ℕ) (octets : List ℕ) → length octets ≤ most
    → attributes_within (more + most) octets ≡ attributes_within most octets
within-more most zero octets le = ap (λ n. attributes_within n octets) (omega arith)
within-more most (suc more) octets le =
    ap (λ n. attributes_within n octets) (omega arith) ∙ sym (within-enough (more + most) octets (omega arith))
    ∙ within-more most more octets le

pub within-all : (most : ℕ) (octets : List ℕ) → length octets ≤ most → attributes_within most octets ≡ attributes_of octets
within-all most octets le =
    let sum : most ≡ (most - length octets) + length octets = omega arith in
    ap (λ n. attributes_within n octets) sum ∙ within-more (length octets) (most - length octets) octets (omega arith)

-- ---- the first attribute

-- whether octets are attributes depends on those after the first of them
pub are-cons : (kind len : ℕ) (rest : List ℕ) → 2 ≤ len → len ≤ length rest + 2
    → is_some (attributes_of (drop len (kind ∷ len ∷ rest))) ≡ is_some (attributes_of (kind ∷ len ∷ rest))
unfolding attributes_within
are-cons kind zero rest low high = absurd (omega arith)
are-cons kind (suc zero) rest low high = absurd (omega arith)
are-cons kind (suc (suc len)) rest low high =
    let a : ltb (suc (suc len)) 2 ≡ false = le-ltb _ _ (omega arith) in
    let b : ltb (length rest + 2) (suc (suc len)) ≡ false = le-ltb _ _ (omega arith) in
    let c : suc (suc len) - 2 ≡ len = omega arith in
    let all = within-all (suc (length rest)) (drop len rest) (omega (arith, length-drop len rest)) in
    rw (a, b, c, all) (some_mapped _ (attributes_of (drop len rest)))
  where
    some_mapped : {A B : Type 0} (f : A → B) (o : Option A) → is_some o ≡ is_some (option_map f o)
    some_mapped f None = refl
    some_mapped f (Some x) = refl

pub first-nil : (octets : List ℕ) → AreAttributes octets (attributes_in octets) → length octets < 2 → attributes_in octets ≡ []
first-nil octets are short = nil (attributes_in octets) are
  where
    nil : (list : List Attribute) → AreAttributes octets list → list ≡ []
    nil [] are = refl
    nil (a ∷ list) are = absurd (omega (arith, ap length are.spelled))

-- the Value of the first attribute, and the octets after it
pub first-is : (kind len : ℕ) (rest : List ℕ) → AreAttributes (kind ∷ len ∷ rest) (attributes_in (kind ∷ len ∷ rest))
    → (2 ≤ len) × (len ≤ length rest + 2)
    × IsFirst (kind ∷ len ∷ rest) (record { kind = kind; value = drop 2 (take len (kind ∷ len ∷ rest)) })
    (drop len (kind ∷ len ∷ rest))
first-is kind len rest are = first (attributes_in (kind ∷ len ∷ rest)) refl are
  where
    first : (list : List Attribute) → attributes_in (kind ∷ len ∷ rest) ≡ list → AreAttributes (kind ∷ len ∷ rest) list
        → (2 ≤ len) × (len ≤ length rest + 2)
        × IsFirst (kind ∷ len ∷ rest) (record { kind = kind; value = drop 2 (take len (kind ∷ len ∷ rest)) })
        (drop len (kind ∷ len ∷ rest))
    first [] e are = absurd cc
    first (a ∷ list) e are =
        let kind_is : kind ≡ a.kind = ap (λ (xs : List ℕ). get_or xs 0 0) are.spelled in
        let len_is : len ≡ suc (suc (length a.value)) = ap (λ (xs : List ℕ). get_or xs 1 0) are.spelled ∙ omega arith in
        let rest_is : rest ≡ a.value ++ attributes_octets list = ap (λ (xs : List ℕ). drop 2 xs) are.spelled in
        let value_is : drop 2 (take len (kind ∷ len ∷ rest)) ≡ a.value =
        rw (len_is, rest_is) (take_at a.value (attributes_octets list) (length a.value) refl) in
        let others_is : drop len (kind ∷ len ∷ rest) ≡ attributes_octets list =
        rw (len_is, rest_is) (drop_at a.value (attributes_octets list) (length a.value) refl) in
        let later : attributes_in (drop len (kind ∷ len ∷ rest)) ≡ list = in-spelled _ list others_is in
        let list_is : attributes_in (kind ∷ len ∷ rest)
        ≡ record { kind = kind; value = drop 2 (take len (kind ∷ len ∷ rest)) } ∷ attributes_in (drop len (kind ∷ len ∷ rest)) =
        e ∙ ap (λ (k : ℕ). record { kind = k; value = a.value } ∷ list) (sym kind_is)
        ∙ ap (λ (v : List ℕ). record { kind = kind; value = v } ∷ list) (sym value_is)
        ∙ ap (λ (others : List Attribute). record { kind = kind; value = drop 2 (take len (kind ∷ len ∷ rest)) } ∷ others)
        (sym later) in (
          omega arith,
          omega (arith, ap length rest_is, length-append a.value (attributes_octets list)),
          record { list = list_is; others = record { spelled = rw later others_is; each = rw later are.each.1 } },
        )

pub first-at : (octets : List ℕ) → 2 ≤ length octets → AreAttributes octets (attributes_in octets)
    → (2 ≤ get_or octets 1 0) × (get_or octets 1 0 ≤ length octets)
    × IsFirst octets (record { kind = get_or octets 0 0; value = drop 2 (take (get_or octets 1 0) octets) })
    (drop (get_or octets 1 0) octets)
first-at [] le are = absurd (omega arith)
first-at (kind ∷ []) le are = absurd (omega arith)
first-at (kind ∷ len ∷ rest) le are = let f = first-is kind len rest are in (f.0, omega (arith, f.1), f.2)

-- ---- whether octets are attributes

pub are-at : (octets : List ℕ) → 2 ≤ length octets → 2 ≤ get_or octets 1 0 → get_or octets 1 0 ≤ length octets
    → is_some (attributes_of (drop (get_or octets 1 0) octets)) ≡ is_some (attributes_of octets)
are-at [] le low high = absurd (omega arith)
are-at (kind ∷ []) le low high = absurd (omega arith)
are-at (kind ∷ len ∷ rest) le low high = are-cons kind len rest low (omega arith)

pub are-not : (octets : List ℕ) → 2 ≤ length octets → (get_or octets 1 0 < 2) ⊎ (length octets < get_or octets 1 0)
    → is_some (attributes_of octets) ≡ false
unfolding attributes_within
are-not [] le h = absurd (omega arith)
are-not (kind ∷ []) le h = absurd (omega arith)
are-not (kind ∷ len ∷ rest) le (inl low) = let t : ltb len 2 ≡ true = lt-ltb _ _ low in rw t refl
are-not (kind ∷ len ∷ rest) le (inr high) =
    let t : ltb (length rest + 2) len ≡ true = lt-ltb _ _ (omega arith) in
    let found : Option (List Attribute) =
    option_map (λ others. record { kind = kind; value = take (len - 2) rest } ∷ others)
    (attributes_within (suc (length rest)) (drop (len - 2) rest)) in
    elim (ltb len 2) as (λ b. is_some (cond (b || ltb (length rest + 2) len) None found) ≡ false)
    [ true ↦ refl | false ↦ rw t refl ]

pub are-short : (octets : List ℕ) → length octets < 2 → is_some (attributes_of octets) ≡ eqb (length octets) 0
unfolding attributes_within
are-short [] lt = refl
are-short (kind ∷ []) lt = refl
are-short (kind ∷ len ∷ rest) lt = absurd (omega arith)

-- ---- how many, and how large

length-size : (list : List Attribute) → length list ≤ size list
length-size [] = omega arith
length-size (a ∷ list) = omega (arith, length-size list, length-append a.value (attributes_octets list))

pub count-size : (kind : ℕ) (list : List Attribute) → count kind list ≤ size list
count-size kind list = omega (arith, count_by-le-length (λ (a : Attribute). eqb a.kind kind) list, length-size list)

pub none_from : {A : Type 0} (o : Option A) → is_some o ≡ false → o ≡ None
none_from None e = refl
none_from (Some x) e = absurd cc

pub some_from : {A : Type 0} (o : Option A) → is_some o ≡ true → (x : A) × (o ≡ Some x)
some_from None e = absurd cc
some_from (Some x) e = (x, refl)

-- ---- one more attribute

all_push : (list : List Attribute) (a : Attribute) → AllByRecursion IsAttribute list → IsAttribute a
    → AllByRecursion IsAttribute (list ++ a ∷ [])
all_push [] a each is = (is, tt)
all_push (b ∷ list) a each is = (each.0, all_push list a each.1 is)

pub spelled_push : (list : List Attribute) (a : Attribute)
    → attributes_octets (list ++ a ∷ []) ≡ attributes_octets list ++ attribute_octets a
spelled_push list a = sym (flat_map_more attribute_octets [] list a)

pub in-push : (octets : List ℕ) (a : Attribute) → AreAttributes octets (attributes_in octets)
    → attributes_in (octets ++ attribute_octets a) ≡ attributes_in octets ++ a ∷ []
in-push octets a are =
    in-spelled (octets ++ attribute_octets a) (attributes_in octets ++ a ∷ [])
    (ap (λ (xs : List ℕ). xs ++ attribute_octets a) are.spelled ∙ sym (spelled_push (attributes_in octets) a))

pub are-push : (octets : List ℕ) (a : Attribute) → AreAttributes octets (attributes_in octets) → IsAttribute a
    → AreAttributes (octets ++ attribute_octets a) (attributes_in (octets ++ attribute_octets a))
are-push octets a are is =
    rw (in-push octets a are) (record {
      spelled = ap (λ (xs : List ℕ). xs ++ attribute_octets a) are.spelled ∙ sym (spelled_push (attributes_in octets) a);
      each = all_push (attributes_in octets) a are.each is;
    })

-- attributes after others
all_append : (front back : List Attribute) → AllByRecursion IsAttribute front → AllByRecursion IsAttribute back
    → AllByRecursion IsAttribute (front ++ back)
all_append [] back none each = each
all_append (a ∷ front) back each others = (each.0, all_append front back each.1 others)

spelled_append : (front back : List Attribute)
    → attributes_octets (front ++ back) ≡ attributes_octets front ++ attributes_octets back
spelled_append front back = flat_map-append attribute_octets front back

pub in-append : (octets others : List ℕ) → AreAttributes octets (attributes_in octets) → AreAttributes others (attributes_in others)
    → attributes_in (octets ++ others) ≡ attributes_in octets ++ attributes_in others
in-append octets others are those =
    in-spelled (octets ++ others) (attributes_in octets ++ attributes_in others)
    (ap (λ o. o ++ others) are.spelled ∙ ap (λ o. attributes_octets (attributes_in octets) ++ o) those.spelled
    ∙ sym (spelled_append (attributes_in octets) (attributes_in others)))

pub are-append : (octets others : List ℕ) → AreAttributes octets (attributes_in octets)
    → AreAttributes others (attributes_in others)
    → AreAttributes (octets ++ others) (attributes_in (octets ++ others))
are-append octets others are those =
    subst (λ (list : List Attribute). AreAttributes (octets ++ others) list) (sym (in-append octets others are those))
    (record {
      spelled = ap (λ o. o ++ others) are.spelled ∙ ap (λ o. attributes_octets (attributes_in octets) ++ o) those.spelled
          ∙ sym (spelled_append (attributes_in octets) (attributes_in others));
      each = all_append (attributes_in octets) (attributes_in others) are.each those.each;
    })

pub are-nil : (octets : List ℕ) → octets ≡ [] → AreAttributes octets (attributes_in octets)
are-nil octets e = rw (in-spelled octets [] e) (record { spelled = e; each = tt })
