-- Expiry: sessions that end since nothing is heard of them.
use Rattle.std.specs.Prelude.{ℕ, ◌&&◌, not, Bool}
use Rattle.rad_config.specs.declared.spans.Spans.{Spans}
use Rattle.rad_pool.specs.Sessions.{is_live, is_open}
use Rattle.rad_pool.specs.declared.session.Session.{Session}

-- whether a session was live at an earlier moment and, as it is later, isn't then, though nothing has ended it
abbrev pub has_expired : Spans → ℕ → Session → ℕ → Session → Bool
has_expired spans earlier before later now =
    is_live spans earlier before && is_open now.phase && not (is_live spans later now)
