use Rattle.std.proofs.Common.{◌≡◌, ◌∙◌, filter, refl, sym}
use Rattle.rad_recent.proofs.HoldLemmas.{holds_removed}
use Rattle.rad_recent.proofs.NumberedLemmas.{has_other_key, none_removed, number_removed, replies_left}
use Rattle.rad_recent.proofs.indexed.remove.Goals as goal

some_left : (c : goal.After-remove) → c.remove.new.self.rows ≡ filter (has_other_key c.args.key.now) c.args.rows.now.rows
some_left c =
    c.remove.ensures.rows
    ∙ number_removed c.args.index.now.map.entries c.args.key.now c.args.rows.now.rows c.in-Some.number
    (sym c.in-Some.ensures.before)
    c.requires.indexed

none_left : (c : goal.In_default) → c.args.rows.now.rows ≡ filter (has_other_key c.args.key.now) c.args.rows.now.rows
none_left c =
    none_removed c.args.index.now.map.entries c.args.key.now c.args.rows.now.rows (sym c.in_default.ensures.before)
    c.requires.indexed

pub returns-in-Some-clause-holds : goal.returns-in-Some-clause-holds
returns-in-Some-clause-holds c =
    holds_removed c.args.key.now c.args.rows.now c.remove.new.self c.args.index.now c.forget.new.index
    (some_left c) c.remove.ensures.last c.remove.ensures.room c.forget.ensures.forgotten c.requires

pub returns-in-Some-clause-rows : goal.returns-in-Some-clause-rows
returns-in-Some-clause-rows c = replies_left c.args.key.now c.args.rows.now.rows c.remove.new.self.rows (some_left c)

pub returns-in_default-clause-holds : goal.returns-in_default-clause-holds
returns-in_default-clause-holds c =
    holds_removed c.args.key.now c.args.rows.now c.args.rows.now c.args.index.now c.forget.new.index
    (none_left c) refl refl c.forget.ensures.forgotten c.requires

pub returns-in_default-clause-rows : goal.returns-in_default-clause-rows
returns-in_default-clause-rows c = replies_left c.args.key.now c.args.rows.now.rows c.args.rows.now.rows (none_left c)
