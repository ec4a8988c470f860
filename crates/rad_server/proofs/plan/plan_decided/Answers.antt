use Rattle.std.proofs.Common.{◌≡◌, ◌∙◌, Option, ap, length, subst, sym}
use Rattle.std.specs.Prelude.{is_some, option_and_then}
use Rattle.std.specs.Option.{option_or}
use Rattle.rad_config.specs.declared.user.User.{User}
use Rattle.rad_pool.specs.Grants.{HasPoolFor}
use Rattle.rad_server.specs.Decisions.{IsOfUser}
use Rattle.rad_server.specs.declared.access.Decision.TheVariants.{Session}
use Rattle.rad_server.proofs.ReplyLemmas.{can_be_accepted}
use Rattle.rad_server.proofs.plan.plan_decided.Goals as goal

-- the user's Access-Accept fits, and a session has an address only if its user has one, or a pool
pub access_accept-requires-clause-accepted : goal.access_accept-requires-clause-accepted
access_accept-requires-clause-accepted c =
    let session = c.in-Ok-Session.session in
    let is : c.in-Ok-Session.field-0 ≡ Session session = rw c.in-Ok-Session.is at c.in-Ok-Session.field-0-is in
    let given : IsOfUser c.args.prepared.now.configuration c.in-Ok-Session.field-0 = rw c.in-Ok-Session.is at c.requires.within in
    let within = subst (λ d. IsOfUser c.args.prepared.now.configuration d) is given in
    let pooled = subst (λ cfg. HasPoolFor cfg session.user session.grant) (sym c.config-config.ensures) within.1 in
    let at_place = c.user_at-row-in-Ok-Session.ensures.value in
    can_be_accepted (length c.config-config.result.now.pools) c.user_at-row-in-Ok-Session.result.now session.grant
    c.user_at-row-in-Ok-Session.ensures.range
    (λ has. sym (ap (λ (o : Option User). is_some (option_and_then (λ (u : User). option_or u.address u.pool) o)) at_place)
    ∙ pooled has)
