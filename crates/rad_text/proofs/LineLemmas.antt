-- A walk over a text from line to line.
use Rattle.std.proofs.Common.{◌≡◌, ◌≢◌, ℕ, suc, ◌+◌, ◌-◌, ◌<◌, Bool, true, false, cond, List, [], ◌∷◌, ◌++◌, length, take, drop}
use Rattle.std.proofs.Common.{Option, Some, None, refl, sym, ap, subst, ◌∙◌, ◌⊎◌, inl, inr, arith, append_assoc}
use Rattle.std.specs.Prelude.{◌==◌, ◌&&◌, unwrap_or, MatchOption, option_map}
use Rattle.std.specs.Option.{option_or}
use Rattle.std.proofs.lemmas.Bool.{eqb-true}
use Rattle.std.proofs.lemmas.List.{append-nil}
use Rattle.rad_text.specs.Splits.{split_once}
use lib.Pointwise.{pointwise}
use Rattle.rad_text.specs.Lines.{line_feed, carriage_return, onto_first, lines_of, without_return, is_divider, divided, text_of}
use Rattle.rad_text.specs.Lines.{IsFirstLine}

-- the lines of a text with no line feed
abbrev whole : List ℕ → List (List ℕ)
whole [] = []
whole (octet ∷ text) = (octet ∷ text) ∷ []

onto_first-whole : (octet : ℕ) (text : List ℕ) → onto_first octet (whole text) ≡ (octet ∷ text) ∷ []
onto_first-whole octet [] = refl
onto_first-whole octet (next ∷ text) = refl

-- the part before the first line feed is the first line
abbrev Starts : List ℕ → Option (List ℕ × List ℕ) → Type 0
Starts text o = MatchOption o (lines_of text ≡ whole text) (λ parts. IsFirstLine text parts.0 parts.1)

starts_step : (octet : ℕ) (text : List ℕ) (b : Bool) (o : Option (List ℕ × List ℕ)) → (octet == line_feed) ≡ b → Starts text o
    → Starts (octet ∷ text) (cond b (Some ([], text)) (option_map (λ parts. (octet ∷ parts.0, parts.1)) o))
starts_step octet text true o is h =
    record { lines = rw is refl; ends = inl (ap (λ (x : ℕ). x ∷ text) (eqb-true octet line_feed is)); shorter = omega arith }
starts_step octet text false None is h = rw (is, h) (onto_first-whole octet text)
starts_step octet text false (Some parts) is h =
    record {
      lines = rw (is, h.lines) refl;
      ends = elim h.ends [ inl e ↦ inl (ap (λ (x : List ℕ). octet ∷ x) e) | inr e ↦ inr e ];
      shorter = omega (arith, h.shorter);
    }

starts : (text : List ℕ) → Starts text (split_once line_feed text)
starts [] = refl
starts (octet ∷ text) = starts_step octet text (octet == line_feed) (split_once line_feed text) refl (starts text)

-- a text with no line feed is its own first line
only_line : (text : List ℕ) → (text ≢ []) → lines_of text ≡ whole text → IsFirstLine text text []
only_line [] some h = absurd (some refl)
only_line (octet ∷ text) some h = record { lines = h; ends = inr refl; shorter = omega arith }

-- the part before the first line feed, or else the whole text
pub first_or_whole : {R : Type 0} (view : R → List ℕ × List ℕ) (found : Option R) (other : R) (text : List ℕ)
    → option_map view found ≡ split_once line_feed text → (text ≢ []) → view other ≡ (text, [])
    → MatchOption (option_or found (Some other)) (text ≡ []) (λ r. IsFirstLine text (view r).0 (view r).1)
first_or_whole view None other text e some is = rw is (only_line text some (subst (Starts text) (sym e) (starts text)))
first_or_whole view (Some r) other text e some is = subst (Starts text) (sym e) (starts text)

-- whether a carriage return ends the line
abbrev ends_in_return : List ℕ → Bool
ends_in_return line = pointwise ◌==◌ (drop (length line - 1) line) (carriage_return ∷ [])

return_step : (octet : ℕ) (line : List ℕ) (b : Bool)
    → cond b (octet ∷ take (length line - 1) line) (octet ∷ line) ≡ octet ∷ cond b (take (length line - 1) line) line
return_step octet line true = refl
return_step octet line false = refl

return_alone : (octet : ℕ) (b : Bool) → cond (b && true) [] (octet ∷ []) ≡ cond b [] (octet ∷ [])
return_alone octet true = refl
return_alone octet false = refl

-- the carriage return is the last octet
without_return-take : (line : List ℕ) → cond (ends_in_return line) (take (length line - 1) line) line ≡ without_return line
without_return-take [] = refl
without_return-take (octet ∷ []) = return_alone octet (octet == carriage_return)
without_return-take (octet ∷ next ∷ line) =
    let e : length (octet ∷ next ∷ line) - 1 ≡ suc (length (next ∷ line) - 1) = omega arith in
    rw (e) (return_step octet (next ∷ line) (ends_in_return (next ∷ line))
    ∙ ap (λ (x : List ℕ). octet ∷ x) (without_return-take (next ∷ line)))

-- the line without the suffix, or else the line
pub stripped : {R : Type 0} (view : R → List ℕ) (found : Option R) (other : R) (line : List ℕ) → view other ≡ line
    → MatchOption found (ends_in_return line ≡ false)
    (λ x. (ends_in_return line ≡ true) × (view x ≡ take (length line - 1) line) × (length (view x) + 1 ≡ length line))
    → view (unwrap_or found other) ≡ without_return line
stripped view None other line is h = is ∙ rw h at (without_return-take line)
stripped view (Some x) other line is h = h.1 ∙ rw (h.0) at (without_return-take line)

-- lines before those of the first part
abbrev with_lines : List (List ℕ) → Option (List (List ℕ) × List (List ℕ)) → Option (List (List ℕ) × List (List ℕ))
with_lines before o = option_map (λ parts. (before ++ parts.0, parts.1)) o

-- so far no line of the text was a divider, and this is the rest
pub record Passes (text rest : List ℕ) : Type 0 where
  pub before : List (List ℕ)
  pub so_far : divided (lines_of text) ≡ with_lines before (divided (lines_of rest))
  pub front : (text ≡ text_of before ++ rest) ⊎ (rest ≡ [])

with_lines-one_more : (before : List (List ℕ)) (line : List ℕ) (o : Option (List (List ℕ) × List (List ℕ)))
    → with_lines before (with_lines (line ∷ []) o) ≡ with_lines (before ++ line ∷ []) o
with_lines-one_more before line None = refl
with_lines-one_more before line (Some parts) =
    ap (λ (x : List (List ℕ)). Some (x, parts.1)) (sym (append_assoc before (line ∷ []) parts.0))

text_of-push : (before : List (List ℕ)) (line rest : List ℕ)
    → text_of before ++ (line ++ line_feed ∷ rest) ≡ text_of (before ++ line ∷ []) ++ rest
text_of-push [] line rest = simp (append_assoc, append-nil)
text_of-push (first ∷ before) line rest =
    append_assoc (first ++ line_feed ∷ []) (text_of before) (line ++ line_feed ∷ rest)
    ∙ ap (λ (x : List ℕ). (first ++ line_feed ∷ []) ++ x) (text_of-push before line rest)
    ∙ sym (append_assoc (first ++ line_feed ∷ []) (text_of (before ++ line ∷ [])) rest)

nothing_shorter : (rest after : List ℕ) → rest ≡ [] → length after < length rest → ⊥
nothing_shorter rest after none shorter = let e : length rest ≡ 0 = ap length none in omega arith

-- one more line that is no divider
pub passes_one : (text rest line after : List ℕ) → Passes text rest → IsFirstLine rest line after → is_divider line ≡ false
    → Passes text after
passes_one text rest line after p first other =
    let tail : divided (lines_of rest) ≡ with_lines (line ∷ []) (divided (lines_of after)) = rw (first.lines, other) refl in
    record {
      before = p.before ++ line ∷ [];
      so_far = p.so_far ∙ ap (with_lines p.before) tail ∙ with_lines-one_more p.before line (divided (lines_of after));
      front = elim first.ends [
        | inl e ↦ elim p.front [
          | inl f ↦ inl (f ∙ ap (λ (x : List ℕ). text_of p.before ++ x) e ∙ text_of-push p.before line after)
          | inr f ↦ absurd (nothing_shorter rest after f first.shorter)
        ]
        | inr e ↦ inr e
      ];
    }

-- a text with a length is not empty
pub not_empty : (text : List ℕ) → false ≡ (length text == 0) → text ≢ []
not_empty [] e none = absurd cc
not_empty (octet ∷ text) e none = cc
