use Rattle.std.proofs.Common.{◌++◌, List, ℕ, take, arith}
use Rattle.std.proofs.KnownBytes.{Consumes-trans}
use Rattle.std.proofs.lemmas.List.{length-append, length-take}
use Rattle.rad_config.proofs.input.read_text.Goals as goal

pub returns-in_err-append-clause-bounded : goal.returns-in_err-append-clause-bounded
returns-in_err-append-clause-bounded g c =
    let part : List ℕ = take c.in_ok-count.count c.read_some.new.room in (
      c.loop-chunk.text.items ++ part,
      Consumes-trans _ _ _ _ _ c.loop-chunk.invariant.read c.in_ok-count.ensures.read,
      omega (
        arith,
        length-append {A = ℕ},
        length-take {A = ℕ},
        c.in_ok-count.ensures.bound,
        c.min-room.ensures,
        c.read_some.auto.room,
      ),
    )
