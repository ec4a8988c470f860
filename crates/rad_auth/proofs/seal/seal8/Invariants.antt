use Rattle.std.proofs.Common.{◌≡◌, ◌++◌, length, take, drop}
use Rattle.rad_auth.specs.Sealing.{sealed}
use Rattle.rad_auth.proofs.seal.seal8.Given as goal

-- the frames so far, and what the lanes that are left make of the others
abbrev pub invariant-lanes : goal.invariant-lanes
invariant-lanes l = record {
  count : length l.frames ≡ 8;
  frames : take l.lane l.frames ++ sealed (drop l.lane l.jobs) (drop l.lane l.frames) ≡ sealed l.jobs l.fn.frames;
}
