use Rattle.rad_config.proofs.UserLemmas.{user_place-names}
use Rattle.rad_config.proofs.users.Users.find.Goals as goal

pub returns-in_err-place-clause-value : goal.returns-in_err-place-clause-value
returns-in_err-place-clause-value c =
    let named = user_place-names c.self.inside.names.keys c.self.inside.rows.items c.self.invariant.index c.args.name.now in
    rw (← c.self.view_is, ← named, ← c.get_index_of.ensures.index, c.in_err-place.was) c.from_residual.ensures

pub returns-clause-value : goal.returns-clause-value
returns-clause-value c =
    let named = user_place-names c.self.inside.names.keys c.self.inside.rows.items c.self.invariant.index c.args.name.now in
    rw (← c.self.view_is, ← named) c.in_ok-place.ensures.index
