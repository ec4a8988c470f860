use Rattle.std.proofs.Common.{rules, ◌≡◌, ◌∙◌, ap, arith, sym, subst, [], ◌∷◌, ◌++◌}
use Rattle.std.specs.List.{All, AllPairs}
use Rattle.rad_rows.specs.Rows.{IsBefore, IsGiven}
use Rattle.rad_rows.proofs.OrderLemmas.{IsAfter, all_after, first_after, first_given, given_rest, moved, rest_after, rising_rest}
use Rattle.rad_rows.proofs.rows.Rows.copy.Goals as goal

pub loop-row-init : goal.loop-row-init
loop-row-init g c =
    let number = g.T.Row.number in
    let rest : c.iter-rest.result ≡ c.args.self.now.rows = c.iter-rest.ensures in
    let given : All (IsGiven number c.args.self.now.last) c.args.self.now.rows =
    rw (← c.self.view_is) c.self.invariant.order.given in
    let rising : AllPairs (IsBefore number) c.args.self.now.rows = rw (← c.self.view_is) c.self.invariant.order.rising in
    record {
      rows = ap (λ l. l ++ c.iter-rest.result) c.open-copy.ensures.rows ∙ rest;
      spans = search rules;
      after = rw (c.open-copy.ensures.last, rest) (all_after number c.args.self.now.last c.args.self.now.rows given);
      given = rw (rest) given;
      last = omega arith;
      rising = rw (rest) rising;
    }

pub restore-requires : goal.restore-requires
restore-requires g c =
    rw (c.in_ok-copy.ensures) (first_after g.T.Row.number c.loop-row.copy.last c.in-Some.row.now c.next.new.self c.loop-row.rest
    c.in-Some.ensures.steps c.loop-row.invariant.after)

pub loop-row-preserved : goal.loop-row-preserved
loop-row-preserved g c =
    let number = g.T.Row.number in
    let is = c.in-Some.ensures.steps in
    let rows = c.in_ok-restore.ensures.rows ∙ ap (λ row. c.loop-row.copy.rows ++ row ∷ []) c.in_ok-copy.ensures in
    let last = c.in_ok-restore.ensures.last ∙ ap number c.in_ok-copy.ensures in
    record {
      rows = moved c.in-Some.row.now c.loop-row.copy.rows c.restore.new.self.rows c.next.new.self c.loop-row.rest
          c.args.self.now.rows is
          c.loop-row.invariant.rows rows;
      spans = c.in_ok-restore.ensures.spans ∙ c.loop-row.invariant.spans;
      after = subst (λ n. All (IsAfter number n) c.next.new.self) (sym last)
          (rest_after number c.in-Some.row.now c.next.new.self c.loop-row.rest is c.loop-row.invariant.rising);
      given = given_rest number c.args.self.now.last c.in-Some.row.now c.next.new.self c.loop-row.rest is
          c.loop-row.invariant.given;
      last =
          omega (
            arith,
            last,
            first_given number c.args.self.now.last c.in-Some.row.now c.next.new.self c.loop-row.rest is
                c.loop-row.invariant.given,
          );
      rising = rising_rest number c.in-Some.row.now c.next.new.self c.loop-row.rest is c.loop-row.invariant.rising;
    }
