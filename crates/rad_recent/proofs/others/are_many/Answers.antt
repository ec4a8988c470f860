use Rattle.std.proofs.Common.{arith, not, sym}
use Rattle.std.proofs.lemmas.Bool.{lt-leb}
use Rattle.rad_recent.specs.Recent.{is_reply_live, same_key}
use Rattle.rad_recent.proofs.NumberedLemmas.{others_le}
use Rattle.rad_recent.proofs.others.are_many.Goals as goal

pub returns-then-len-most : goal.returns-then-len-most
returns-then-len-most c =
    sym (lt-leb c.args.most _ (omega (
      arith,
      c.len.ensures,
      c.if-len-most.true,
      others_le (is_reply_live c.args.rows.now.spans c.args.now) (λ reply. not (same_key c.args.key.now reply.key))
          c.args.rows.now.rows,
    )))
