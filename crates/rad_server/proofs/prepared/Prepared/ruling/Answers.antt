use Rattle.std.proofs.Common.{IfSome, Some, None, refl, sym, subst}
use Rattle.rad_server.specs.Prepared.{IsBodyOf}
use Rattle.rad_server.specs.declared.fixed_reply.FixedReply.TheVariants.{Status}
use Rattle.rad_server.proofs.PlanLemmas.{borrowed_has, is_body}
use Rattle.rad_server.proofs.prepared.Prepared.ruling.Goals as goal

pub returns-in-None : goal.returns-in-None
returns-in-None c =
    let request = c.self.inside.request.now in
    let body = subst (λ o. IfSome o (IsBodyOf request None)) (sym c.as_ref-body.ensures.value)
    (rw c.in-None.is at c.self.invariant.body_is) in
    rw (← c.self.view_is) (
      rw c.in-None.is at c.self.invariant.rule_is,
      is_body request None (Status request.door) c.as_ref-body.result refl
          (borrowed_has (IsBodyOf request None) c.as_ref-body.result body),
    )

pub returns-in-Some : goal.returns-in-Some
returns-in-Some c =
    let request = c.self.inside.request.now in
    let ruled = rw c.in-Some.is at c.self.invariant.rule_is in
    let body = subst (λ o. IfSome o (IsBodyOf request (Some c.in-Some.rule))) (sym c.as_ref-body.ensures.value)
    (rw c.in-Some.is at c.self.invariant.body_is) in
    rw (← c.self.view_is) (
      ruled.0,
      record { rule_is = ruled.1; body_is = borrowed_has (IsBodyOf request (Some c.in-Some.rule)) c.as_ref-body.result body },
    )
