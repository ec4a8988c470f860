use Rattle.std.proofs.Common.{◌≡◌, ℕ, ◌∷◌, ◌++◌, ◌||◌, [], length, None, ap, arith, rules}
use Rattle.std.specs.List.{list_any}
use Rattle.std.specs.Prelude.{nat_eq}
use Rattle.std.proofs.lemmas.List.{length_push}
use Rattle.rad_config.specs.Configurations.{is_that, user_place}
use Rattle.rad_config.proofs.NameLemmas.{named-push}
use Rattle.rad_config.proofs.UserLemmas.{names-add, own-add}
use Rattle.rad_config.proofs.users.Users.add.Goals as goal

pub invariant_of-self-2 : goal.invariant_of-self-2
invariant_of-self-2 c =
    let users = c.self.inside.rows.items in
    let user = c.args.user in
    let new : user_place users user.name ≡ None = rw c.self.view_is c.requires.new in
    let pushed : c.push.new.self.items ≡ users ++ user ∷ [] = search rules in
    let copied : c.in_ok-name.name.items ≡ user.name = search rules in
    let added : (address : ℕ) → list_any (nat_eq address) c.add_address.new.addresses.keys
    ≡ (list_any (nat_eq address) c.self.inside.addresses.keys || is_that address user.address) = search rules in
    record {
      index = rw pushed (names-add c.self.inside.names.keys users c.self.invariant.index c.insert.new.self.keys c.in_ok-name.name
          user new copied c.in_ok-insert.ensures.keys);
      own = rw pushed (own-add c.self.inside.addresses.keys c.add_address.new.addresses.keys users user c.self.invariant.own added);
      few = rw (pushed, length_push) (omega (arith, c.requires.room, ap length c.self.view_is));
      apart = rw pushed (named-push users user c.self.invariant.apart new);
    }
