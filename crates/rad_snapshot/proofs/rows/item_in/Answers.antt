use Rattle.std.proofs.Common.{Err, IfErr, ◌≡◌, ℕ, subst, sym, rules}
use Rattle.rad_journal.specs.declared.journal.JournalFault.TheVariants.{Damaged}
use Rattle.rad_snapshot.specs.Restoring.{IsRowAt}
use Rattle.rad_snapshot.proofs.RowLemmas.{no_reply}
use Rattle.rad_snapshot.proofs.rows.item_in.Goals as goal

pub returns-in_err-reply_in-in-Replies-clause-damaged : goal.returns-in_err-reply_in-in-Replies-clause-damaged
returns-in_err-reply_in-in-Replies-clause-damaged c =
    let fault = c.in_err-reply_in-in-Replies.field-0.0 in
    let given : c.from_residual-in_err-reply_in-in-Replies.result ≡ Err fault = search rules in
    subst (λ r. IfErr r (λ fault. fault ≡ Damaged → (place : ℕ) → IsRowAt c.args.table place c.args.row.now → ⊥)) (sym given)
    (λ is place. subst (λ t. IsRowAt t place c.args.row.now → ⊥) (sym c.in-Replies.is)
    (no_reply c.args.row.now (c.in_err-reply_in-in-Replies.ensures.damaged is) place))
