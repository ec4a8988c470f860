use Rattle.std.proofs.Common.{◌≡◌, ◌∙◌, ◌∷◌, [], true, false, List, rules, arith, ap, subst}
use Rattle.sqlite_trees.specs.View.{Advances, IsClean}
use Rattle.sqlite_value.specs.Order.{Row}
use Rattle.rad_state.specs.Metas.{meta_table}
use Rattle.rad_journal.proofs.CursorLemmas.{ends, gives, seeks_first}
use Rattle.rad_state.proofs.meta_table.read_meta.Goals as goal

pub returns-then-not-branch-clause-found : goal.returns-then-not-branch-clause-found
returns-then-not-branch-clause-found g c clean =
    let S = g.S.Store in
    let none : c.in_ok-next.field-0 ≡ false = search rules in
    let before : IsClean (S.view c.seek.new.self) = omega (arith, c.next.ensures.quiet.clean, clean) in
    let sought = seeks_first (S.view c.args.store.now) (S.view c.seek.new.self) meta_table _ c.new-key.ensures
    (c.in_ok-seek.ensures.ok before) in
    let advances = subst (λ b. Advances (S.view c.seek.new.self) (S.view c.next.new.self) 0 c.next.new.row b) none
    (c.in_ok-next.ensures.ok clean) in
    (ends (S.view c.seek.new.self) (S.view c.next.new.self) ((S.view c.args.store.now).trees meta_table) c.next.new.row advances
    sought.0).0

pub returns-clause-found : goal.returns-clause-found
returns-clause-found g c clean =
    let S = g.S.Store in
    let some : c.in_ok-next.field-0 ≡ true = search rules in
    let none : c.in_ok-next-2.field-0 ≡ false = search rules in
    let between : IsClean (S.view c.next.new.self) = omega (arith, c.next-2.ensures.quiet.clean, clean) in
    let before : IsClean (S.view c.seek.new.self) = omega (arith, c.next.ensures.quiet.clean, between) in
    let sought = seeks_first (S.view c.args.store.now) (S.view c.seek.new.self) meta_table _ c.new-key.ensures
    (c.in_ok-seek.ensures.ok before) in
    let advances = subst (λ b. Advances (S.view c.seek.new.self) (S.view c.next.new.self) 0 c.next.new.row b) some
    (c.in_ok-next.ensures.ok between) in
    let first = gives (S.view c.seek.new.self) (S.view c.next.new.self) ((S.view c.args.store.now).trees meta_table) c.next.new.row
    advances sought.0 in
    let stays = subst (λ b. Advances (S.view c.next.new.self) (S.view c.next-2.new.self) 0 c.next-2.new.row b) none
    (c.in_ok-next-2.ensures.ok clean) in
    let last = ends (S.view c.next.new.self) (S.view c.next-2.new.self) first.0 c.next-2.new.row stays first.2 in
    first.1 ∙ ap (λ (rows : List Row). c.next.new.row ∷ rows) last.0 ∙ ap (λ (row : Row). row ∷ []) c.in_ok-meta.ensures.found
