use Rattle.std.proofs.Common.{◌≡◌, ℕ, ◌<◌, length, None, slice_index_or}
use Rattle.rad_accounting.proofs.FirstLemmas.{IsFirst}
use Rattle.rad_accounting.proofs.firsts.Firsts.of.Given as goal

-- of each Type what was found so far, or else the first of what is left
abbrev pub invariant-loop-attribute : goal.invariant-loop-attribute
invariant-loop-attribute l = (length l.values ≡ 256)
    × ((kind : ℕ) → kind < 256 → IsFirst kind (slice_index_or l.values kind None) l.rest l.fn.packet.attributes)
