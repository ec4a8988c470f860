-- Moments, and how long things are remembered: in milliseconds, where the configuration has seconds.
use Rattle.std.specs.Prelude.{ℕ, ◌+◌, ◌*◌, ◌^◌, nat_lt, Bool, option_map}
use Rattle.rad_config.specs.Configurations.{Configuration}
use Rattle.rad_config.specs.declared.spans.Spans.{Spans}

-- the last moment: it and a span add up within 64 bits
abbrev pub moment_max : ℕ
moment_max = 2 ^ 62

-- whether a span that began at a moment isn't over
abbrev pub lasts : ℕ → ℕ → ℕ → Bool
lasts now since span = nat_lt now (since + span)

abbrev pub milliseconds : ℕ → ℕ
milliseconds seconds = 1000 * seconds

abbrev pub spans_of : Configuration → Spans
spans_of configuration = record {
  window = milliseconds configuration.window;
  hold = milliseconds configuration.hold;
  stale = option_map milliseconds configuration.stale;
}
