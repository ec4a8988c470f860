-- How often an attribute occurs in a list, of which the front was walked over.
use Rattle.std.proofs.Common.{◌≡◌, ℕ, Bool, true, false, cond, eqb, ◌||◌, List, [], ◌∷◌, refl, ap, sym, ◌∙◌}
use Rattle.std.specs.List.{list_any}
use Rattle.std.specs.Prelude.{map}
use Rattle.rad_packet.specs.Attributes.{Attribute, of_kind}
use Rattle.rad_server.specs.Occurrences.{Occurrence, Absent, Once, Repeated, occurrence, occurrence_of_values}
use Rattle.rad_server.specs.SentCredentials.{counted, one_more}

-- how often in two lists
abbrev pub together : Occurrence → Occurrence → Occurrence
together Absent later = later
together (Once value) Absent = Once value
together (Once value) (Once another) = Repeated
together (Once value) Repeated = Repeated
together Repeated later = Repeated

together-absent : (so_far : Occurrence) → together so_far Absent ≡ so_far
together-absent Absent = refl
together-absent (Once value) = refl
together-absent Repeated = refl

one_more-step : (value : List ℕ) (so_far : Occurrence) (values : List (List ℕ))
    → together (one_more value so_far) (occurrence_of_values values) ≡ together so_far (occurrence_of_values (value ∷ values))
one_more-step value Absent [] = refl
one_more-step value Absent (x ∷ []) = refl
one_more-step value Absent (x ∷ y ∷ more) = refl
one_more-step value (Once first) [] = refl
one_more-step value (Once first) (x ∷ more) = refl
one_more-step value Repeated values = refl

counted-step : (kind : ℕ) (so_far : Occurrence) (a : Attribute) (list : List Attribute)
    → together (counted kind a so_far) (occurrence kind list) ≡ together so_far (occurrence kind (a ∷ list))
counted-step kind so_far a list = at (eqb a.kind kind)
  where
    at : (b : Bool) → together (cond b (one_more a.value so_far) so_far) (occurrence kind list)
        ≡ together so_far (occurrence_of_values (map (λ x. x.value) (cond b (a ∷ of_kind kind list) (of_kind kind list))))
    at false = refl
    at true = one_more-step a.value so_far (map (λ x. x.value) (of_kind kind list))

-- one attribute further
pub next-occurrence : (kind : ℕ) (was new : Occurrence) (a : Attribute) (others rest all : List Attribute) → rest ≡ a ∷ others
    → new ≡ counted kind a was
    → together was (occurrence kind rest) ≡ occurrence kind all → together new (occurrence kind others) ≡ occurrence kind all
next-occurrence kind was new a others rest all e is known =
    ap (λ o. together o (occurrence kind others)) is ∙ counted-step kind was a others
    ∙ ap (λ list. together was (occurrence kind list)) (sym e) ∙ known

-- at the end
pub all-occurrences : (kind : ℕ) (found : Occurrence) (rest all : List Attribute) → rest ≡ []
    → together found (occurrence kind rest) ≡ occurrence kind all → found ≡ occurrence kind all
all-occurrences kind found rest all e known =
    sym (together-absent found) ∙ ap (λ list. together found (occurrence kind list)) (sym e) ∙ known

-- whether it occurs at all
pub next-any : (p : Attribute → Bool) (was new : Bool) (a : Attribute) (others rest : List Attribute) (all : Bool)
    → rest ≡ a ∷ others → new ≡ (was || p a)
    → (was || list_any p rest) ≡ all → (new || list_any p others) ≡ all
next-any p was new a others rest all e is known =
    ap (λ so_far. so_far || list_any p others) is ∙ any-step was ∙ ap (λ list. was || list_any p list) (sym e) ∙ known
  where
    any-step : (so_far : Bool) → ((so_far || p a) || list_any p others) ≡ (so_far || list_any p (a ∷ others))
    any-step true = refl
    any-step false = refl

or-false : (b : Bool) → (b || false) ≡ b
or-false true = refl
or-false false = refl

pub all-any : (p : Attribute → Bool) (found : Bool) (rest : List Attribute) (all : Bool) → rest ≡ []
    → (found || list_any p rest) ≡ all → found ≡ all
all-any p found rest all e known = sym (or-false found) ∙ ap (λ list. found || list_any p list) (sym e) ∙ known
