-- The last entry of a table's rows.
use Rattle.std.proofs.Common.{◌≡◌, pos, List, [], ◌∷◌, ◌++◌, reverse, Some, None, sym, ap, ◌∙◌}
use Rattle.std.proofs.lemmas.List.{map-append, reverse-append, reverse-reverse}
use Rattle.sqlite_value.specs.declared.value.Value.{Value}
use Rattle.sqlite_value.specs.declared.value.Value.TheVariants.{Int}
use Rattle.sqlite_value.specs.Order.{Row, column}
use Rattle.rad_journal.specs.Rows.{at_moment, at_wall, entries_of, entry_of, number_of}
use Rattle.rad_journal.specs.declared.kept.Kept.{Kept}
use Rattle.rad_state.specs.Moments.{first_of, last_of}
use Rattle.rad_state.specs.declared.moments.Last.{Last}

pub last_none : (rows : List Row) → reverse rows ≡ [] → None ≡ last_of (entries_of rows)
last_none rows none =
    let empty : rows ≡ [] = sym (reverse-reverse rows) ∙ ap (λ (l : List Row). reverse l) none in
    sym (ap (λ (l : List Row). last_of (entries_of l)) empty)

-- the last entry of rows that end with this one
ends_with : (rows left : List Row) (row : Row) → reverse rows ≡ row ∷ left
    → reverse (entries_of rows) ≡ entry_of row ∷ reverse (entries_of (reverse left))
ends_with rows left row is =
    let split : rows ≡ reverse left ++ row ∷ [] =
    sym (reverse-reverse rows) ∙ ap (λ (l : List Row). reverse l) is ∙ reverse-append (row ∷ []) left in
    let mapped : entries_of rows ≡ entries_of (reverse left) ++ entry_of row ∷ [] =
    ap (λ (l : List Row). entries_of l) split ∙ map-append entry_of (reverse left) (row ∷ []) in
    ap (λ (l : List Kept). reverse l) mapped ∙ reverse-append (entries_of (reverse left)) (entry_of row ∷ [])

pub last_some : (rows left : List Row) (row : Row) (last : Last) → reverse rows ≡ row ∷ left
    → column row at_wall ≡ Int (pos last.wall) → column row at_moment ≡ Int (pos last.moment)
    → Some last ≡ last_of (entries_of rows)
last_some rows left row last is wall moment =
    let here : first_of (entry_of row ∷ reverse (entries_of (reverse left)))
    ≡ Some (record { wall = number_of (Int (pos last.wall)); moment = number_of (column row at_moment) }) =
    ap (λ (v : Value). Some (record { wall = number_of v; moment = number_of (column row at_moment) })) wall in
    let there : Some (record { wall = last.wall; moment = number_of (column row at_moment) }) ≡ Some last =
    ap (λ (v : Value). Some (record last { moment = number_of v })) moment in
    sym (ap (λ (l : List Kept). first_of l) (ends_with rows left row is) ∙ here ∙ there)
