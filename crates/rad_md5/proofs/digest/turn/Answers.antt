use Rattle.std.proofs.Common.{◌<◌, ap, ◌∙◌, arith, inl, inr}
use Rattle.std.proofs.lemmas.Bool.{cases_lt}
use Rattle.md5.specs.Md5.{block_words}
use Rattle.rad_md5.specs.Blocks.{block_at, block_count}
use Rattle.rad_md5.specs.Lanes.{lane_message}
use Rattle.rad_md5.proofs.BlockLemmas.{turn_taken, turn_left}
use Rattle.rad_md5.proofs.digest.turn.Goals as goal

pub returns : goal.returns
returns c = λ held j few.
    let m = lane_message c.args.messages.now c.args.places.now j in
    let n = c.args.n in
    let below : j < 8 = omega (arith, c.requires.0) in
    elim (cases_lt n (block_count m)) [
      | inl inside ↦
          let live = c.next_blocks-live.ensures.live j few inside in
          c.compress8.ensures.taken j below live.0 (block_at m n) (c.words8.ensures j below ∙ ap (λ b. block_words b 16) live.1)
          ∙ turn_taken m _ n inside (held j few)
      | inr past ↦
          c.compress8.ensures.left j below (c.next_blocks-live.ensures.ended j few past) ∙ turn_left m _ n past (held j few)
    ]
