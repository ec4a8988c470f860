-- Eight lanes, and passes one after the other.
use Rattle.std.proofs.Common.{◌≡◌, List, [], ◌∷◌, length, get_or, refl, ap, ◌∙◌}
use Rattle.std.specs.Prelude.{map}
use Rattle.std.specs.Simd.Lanes.{zip2}
use Rattle.rad_md5.proofs.LaneLemmas.{eight_lanes}

-- the eight items of a list, read one by one
abbrev pub lanes : {A : Type 0} (xs : List A) (d0 d1 d2 d3 d4 d5 d6 d7 : A) → List A
lanes xs d0 d1 d2 d3 d4 d5 d6 d7 =
    get_or xs 0 d0 ∷ get_or xs 1 d1 ∷ get_or xs 2 d2 ∷ get_or xs 3 d3
    ∷ get_or xs 4 d4 ∷ get_or xs 5 d5 ∷ get_or xs 6 d6 ∷ get_or xs 7 d7 ∷ []

pub lanes_read : {A : Type 0} (xs : List A) (d0 d1 d2 d3 d4 d5 d6 d7 : A) → length xs ≡ 8 → lanes xs d0 d1 d2 d3 d4 d5 d6 d7 ≡ xs
lanes_read xs d0 d1 d2 d3 d4 d5 d6 d7 =
    eight_lanes (λ ys. lanes ys d0 d1 d2 d3 d4 d5 d6 d7 ≡ ys) (λ a b c d e f g h. refl) xs

-- what is made of two lists lane by lane
pub zipped_lanes : {A B C : Type 0} (f : A → B → C) (xs : List A) (ys : List B) (d0 d1 d2 d3 d4 d5 d6 d7 : A)
    (e0 e1 e2 e3 e4 e5 e6 e7 : B)
    → length xs ≡ 8 → length ys ≡ 8
    → zip2 f (lanes xs d0 d1 d2 d3 d4 d5 d6 d7) (lanes ys e0 e1 e2 e3 e4 e5 e6 e7) ≡ zip2 f xs ys
zipped_lanes f xs ys d0 d1 d2 d3 d4 d5 d6 d7 e0 e1 e2 e3 e4 e5 e6 e7 long equal =
    ap (λ those. zip2 f those (lanes ys e0 e1 e2 e3 e4 e5 e6 e7)) (lanes_read xs d0 d1 d2 d3 d4 d5 d6 d7 long)
    ∙ ap (zip2 f xs) (lanes_read ys e0 e1 e2 e3 e4 e5 e6 e7 equal)

-- a pass over what a first pass over the same items gave
pub two_passes : {A B C D : Type 0} (f : B → D → C) (g : A → B) (k : B → A → D) (h : A → B) (xs : List A)
    → zip2 f (map g xs) (zip2 k (map h xs) xs) ≡ map (λ x. f (g x) (k (h x) x)) xs
two_passes f g k h [] = refl
two_passes f g k h (x ∷ xs) = ap (λ rest. f (g x) (k (h x) x) ∷ rest) (two_passes f g k h xs)
