use Rattle.std.proofs.Common.{ℕ, ◌<◌, length, sym, subst, IfSome}
use Rattle.std.proofs.lemmas.List.Elements.{All-filter}
use Rattle.rad_recent.specs.Challenges.{cut_challenges, has_state, is_challenge_live}
use Rattle.rad_server.proofs.PlanLemmas.{found_has, image_has}
use Rattle.rad_server.proofs.access.find_challenged.Goals as goal

pub returns-clause-place : goal.returns-clause-place
returns-clause-place c = λ configuration usable.
    let table = c.args.tables.now.challenges.table in
    let within : ℕ → Type 0 = λ user. user < length configuration.users in
    subst (λ found. IfSome found within) (sym c.seek.ensures)
    (image_has within (λ challenge. challenge.user) _
    (found_has (λ challenge. within challenge.user) (has_state c.args.state.now c.args.client)
    (cut_challenges c.args.now table).challenges
    (All-filter (is_challenge_live table.hold c.args.now) (λ challenge. within challenge.user) table.challenges usable.users)))
