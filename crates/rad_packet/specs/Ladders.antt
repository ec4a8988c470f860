-- Ladders: checks one after the other, each made only where none before it refused.
use Rattle.std.specs.Prelude.{Bool, true, false, Result, Ok, Err}

infixl 10 ◌>>=◌
abbrev pub ◌>>=◌ : {A B E : Type 0} → Result A E → (A → Result B E) → Result B E
(Ok x) >>= next = next x
(Err refusal) >>= next = Err refusal

-- the refusal, where this holds
abbrev pub refuse_if : {E : Type 0} → Bool → E → Result (Unit {0}) E
refuse_if true refusal = Err refusal
refuse_if false refusal = Ok tt
