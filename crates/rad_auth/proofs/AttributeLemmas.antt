-- How many attributes of a Type there are, and how large they are.
use Rattle.std.proofs.Common.{◌≡◌, ℕ, ◌+◌, ◌≤◌, Bool, true, false, cond, eqb, List, [], ◌∷◌, length, arith}
use Rattle.std.proofs.lemmas.List.{length-append}
use Rattle.std.proofs.lemmas.List.Sums.{sum_by-cons}
use Rattle.rad_packet.specs.Attributes.{Attribute, attributes_octets, count, of_kind, size}

pub size-cons : (a : Attribute) (list : List Attribute) → size (a ∷ list) ≡ length a.value + 2 + size list
size-cons a list = omega (arith, length-append a.value (attributes_octets list))

pub count-cons : (kind : ℕ) (a : Attribute) (list : List Attribute)
    → count kind (a ∷ list) ≡ cond (eqb a.kind kind) 1 0 + count kind list
count-cons kind a list = sum_by-cons (λ (x : Attribute). cond (eqb x.kind kind) 1 0) a list

pub size-of_kind-cons : (kind : ℕ) (a : Attribute) (list : List Attribute)
    → size (of_kind kind (a ∷ list)) ≡ cond (eqb a.kind kind) (length a.value + 2) 0 + size (of_kind kind list)
size-of_kind-cons kind a list =
    elim (eqb a.kind kind) as (λ b. size (cond b (a ∷ of_kind kind list) (of_kind kind list))
    ≡ cond b (length a.value + 2) 0 + size (of_kind kind list)) [
      | true ↦ size-cons a (of_kind kind list)
      | false ↦ omega arith
    ]

at_most : (b : Bool) (n : ℕ) → cond b n 0 ≤ n
at_most true n = omega arith
at_most false n = omega arith

pub count-size : (kind : ℕ) (list : List Attribute) → count kind list ≤ size list
count-size kind [] = omega arith
count-size kind (a ∷ list) =
    omega (arith, count-size kind list, count-cons kind a list, size-cons a list, at_most (eqb a.kind kind) 1)

-- a selection of attributes is no larger than all of them
pub size-of_kind : (kind : ℕ) (list : List Attribute) → size (of_kind kind list) ≤ size list
size-of_kind kind [] = omega arith
size-of_kind kind (a ∷ list) =
    omega (
      arith,
      size-of_kind kind list,
      size-of_kind-cons kind a list,
      size-cons a list,
      at_most (eqb a.kind kind) (length a.value + 2),
    )
