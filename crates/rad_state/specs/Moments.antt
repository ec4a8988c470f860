-- The moment at which a server goes on. Moments, wall times and readings of the boot clock are in milliseconds.
use Rattle.std.specs.Prelude.{◌≡◌, ◌≢◌, ℕ, ◌+◌, ◌-◌, ℤ, pos, ◌-ℤ◌, max, min, List, [], ◌∷◌, reverse, Option, None, Some}
use Rattle.rad_config.specs.Spans.{moment_max}
use Rattle.rad_journal.specs.Rows.{magnitude}
use Rattle.rad_journal.specs.declared.kept.Kept.{Kept}
use Rattle.rad_state.specs.declared.meta.Meta.{Meta}
use Rattle.rad_state.specs.declared.moments.Clocks.{Clocks}
use Rattle.rad_state.specs.declared.moments.Last.{Last}

-- the times of the first entry, if there is one
abbrev pub first_of : List Kept → Option Last
first_of [] = None
first_of (entry ∷ rest) = Some (record { wall = entry.wall; moment = entry.moment })

-- the times of the last entry, if there is one
abbrev pub last_of : List Kept → Option Last
last_of entries = first_of (reverse entries)

abbrev pub moment_of : Option Last → ℕ
moment_of None = 0
moment_of (Some last) = last.moment

-- the moment in the boot whose clock showed `zero` at moment 0, or 0 if that is still to come
abbrev pub in_boot : ℤ → ℕ → ℕ
in_boot zero running = magnitude (pos running -ℤ zero)

-- the moment that has passed since these times, by the wall clock
abbrev pub by_wall : Last → ℕ → ℕ
by_wall last wall = last.moment + (wall - last.wall)

-- This is the moment now. In the same boot it goes by the boot clock, and is no earlier than that of the last times. After another
-- boot it goes by the wall clock.
pub record IsMoment (meta : Meta) (last : Last) (now : Clocks) (moment : ℕ) : Type 0 where
  pub same_boot : meta.boot ≡ now.boot → moment ≡ min (max (in_boot meta.zero now.running) last.moment) moment_max
  pub other_boot : meta.boot ≢ now.boot → moment ≡ min (by_wall last now.wall) moment_max
