use Rattle.std.proofs.Common.{◌≡◌, ◌∙◌, ℕ, ◌+◌, List, ◌++◌, ◌∷◌, [], None, ap, filter, refl, sym}
use Rattle.std.proofs.lemmas.List.{map-append}
use Rattle.rad_rows.specs.Rows.{SeenRows}
use Rattle.rad_recent.specs.Index.{replies_of}
use Rattle.rad_recent.specs.declared.numbered.Numbered.{Numbered}
use Rattle.rad_recent.proofs.HoldLemmas.{holds_pushed}
use Rattle.rad_recent.proofs.NumberedLemmas.{has_other_key, none_removed, number_removed, replies_left}
use Rattle.rad_recent.proofs.indexed.push.Goals as goal
use Rattle.rad_recent.proofs.indexed.push.Goals.{in-Some, in_default}

-- no row of the key is left, and the last number is the same
left : (c : goal.After-push)
    → (c.match-note.rows.rows ≡ filter (has_other_key c.args.kept.key) c.args.rows.now.rows)
    × (c.match-note.rows.last ≡ c.args.rows.now.last)
left c =
    let es = c.args.index.now.map.entries in
    let key = c.args.kept.key in
    let old = c.args.rows.now.rows in
    let indexed = c.requires.holds.indexed in
    let last : SeenRows Numbered ℕ → ℕ = λ seen. seen.last in
    let rows : SeenRows Numbered ℕ → List Numbered = λ seen. seen.rows in
    elim c.match-note.branch [
      | in-Some w ↦ (
        ap rows w.rows-is ∙ w.remove.ensures.rows
            ∙ number_removed es key old w.in-Some.before (sym w.in-Some.ensures.before) indexed,
        ap last w.rows-is ∙ w.remove.ensures.last,
      )
      | in_default w ↦ (ap rows w.rows-is ∙ none_removed es key old (sym w.in_default.ensures.before) indexed, ap last w.rows-is)
    ]

pub returns-clause-holds : goal.returns-clause-holds
returns-clause-holds c =
    holds_pushed (record { number = c.last-number.result + 1; kept = c.args.kept }) c.args.rows.now c.match-note.rows
    c.push.new.self
    c.args.index.now (record { map = c.note.new.map; ready = None }) (left c).0 c.numbers_rise.ensures.rising.given
    (ap (λ l. l + 1) c.last-number.ensures) (c.push.ensures.last ∙ ap (λ l. l + 1) (left c).1)
    c.push.ensures.rows c.note.ensures.noted refl c.requires.holds

pub returns-clause-rows : goal.returns-clause-rows
returns-clause-rows c =
    ap replies_of c.push.ensures.rows
    ∙ map-append (λ (row : Numbered). row.kept) c.match-note.rows.rows _
    ∙ ap (λ replies. replies ++ c.args.kept ∷ [])
    (replies_left c.args.kept.key c.args.rows.now.rows c.match-note.rows.rows (left c).0)
