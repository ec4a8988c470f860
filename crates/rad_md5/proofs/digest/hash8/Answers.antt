use Rattle.std.proofs.Common.{ap, ◌∙◌, arith}
use Rattle.md5.specs.Md5.{digest_bytes}
use Rattle.rad_md5.specs.Lanes.{lane_message}
use Rattle.rad_md5.proofs.BlockLemmas.{all_turns, no_turn}
use Rattle.rad_md5.proofs.digest.hash8.Goals as goal

pub turns-init : goal.turns-init
turns-init c = λ j few.
    c.initial_state-state.ensures j (omega (arith, c.requires.0)) ∙ no_turn (lane_message c.args.messages.now c.args.places.now j)

pub returns : goal.returns
returns c = λ j few.
    ap (λ h. digest_bytes h 4) (c.turns.invariant j few)
    ∙ all_turns (lane_message c.args.messages.now c.args.places.now j) c.turns.n
    (omega (arith, c.most_blocks-n-end.ensures.enough j few, c.turns-test.false))
