use Rattle.std.proofs.Common.{ap, ◌∙◌, arith}
use Rattle.md5.specs.Md5.{rounds}
use Rattle.rad_md5.specs.Lanes.{words_of}
use Rattle.rad_md5.proofs.compress.four_steps.Goals as goal

pub returns : goal.returns
returns c = λ j below h held.
    let after = rounds h (words_of j c.args.w.now) in
    let s1 = c.step-v.ensures j below h held in
    let s2 = c.step-v-2.ensures j below h s1 in
    let s3 = c.step-v-3.ensures j below h (s2 ∙ ap after (omega arith)) in
    c.step.ensures j below h (s3 ∙ ap after (omega arith)) ∙ ap after (omega arith)
