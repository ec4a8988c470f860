use Rattle.std.proofs.Common.{◌∙◌, ap, sym}
use Rattle.rad_pool.specs.Sessions.{is_live}
use Rattle.rad_pool.proofs.HolderLemmas.{live_holder, live_nobody}
use Rattle.rad_pool.proofs.free.is_held.Goals as goal

pub returns-in-Nobody : goal.returns-in-Nobody
returns-in-Nobody c =
    sym (live_nobody c.args.rows.now.spans c.args.now c.args.address c.args.rows.now.rows
    (rw c.in-Nobody.is at c.holder_of.ensures))

pub returns-in-One : goal.returns-in-One
returns-in-One c =
    c.is_live.ensures ∙ ap (λ spans. is_live spans c.args.now c.in-One.session.now) c.spans.ensures
    ∙ sym (live_holder c.args.rows.now.spans c.args.now c.args.address c.args.rows.now.rows c.in-One.session.now
    (rw c.in-One.is at c.holder_of.ensures))
