use Rattle.std.proofs.Common.{◌∙◌, ◌+◌, ap, length, subst, sym, true≢false}
use Rattle.rad_rows.specs.Entries.{key_of}
use Rattle.rad_rows.specs.Rows.{IsRising}
use Rattle.rad_rows.proofs.rows.Rows.room_at.Goals as goal

pub invariant_of-self : goal.invariant_of-self
invariant_of-self g c =
    let known = c.in_err-try_room.ensures in
    let before = c.self.invariant in
    record {
      sound = record {
        spanned = known.sound.spanned;
        placed = known.sound.placed;
        ascends = known.sound.ascends;
        limited = known.unready (key_of (c.self.inside.last + 1)) before.sound.limited;
      };
      grouped = known.grouped;
      count = before.count ∙ ap length (sym known.rows);
      order = subst (IsRising g.T.Row.number c.self.inside.last) (sym known.rows) before.order;
      room = λ ready. absurd (true≢false (sym ready));
    }
