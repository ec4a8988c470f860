use Rattle.std.proofs.Common.{refl}
use Rattle.md5.specs.Md5.{rounds}
use Rattle.rad_md5.specs.Lanes.{lane}
use Rattle.rad_md5.proofs.compress.steps.Goals as goal

pub returns : goal.returns
unfolding rounds
returns c = λ j below.
    let h = lane j c.args.v in
    let s1 = c.four_steps-v.ensures j below h refl in
    let s2 = c.four_steps-v-2.ensures j below h s1 in
    let s3 = c.four_steps-v-3.ensures j below h s2 in
    let s4 = c.four_steps-v-4.ensures j below h s3 in
    let s5 = c.four_steps-v-5.ensures j below h s4 in
    let s6 = c.four_steps-v-6.ensures j below h s5 in
    let s7 = c.four_steps-v-7.ensures j below h s6 in
    let s8 = c.four_steps-v-8.ensures j below h s7 in
    let s9 = c.four_steps-v-9.ensures j below h s8 in
    let s10 = c.four_steps-v-10.ensures j below h s9 in
    let s11 = c.four_steps-v-11.ensures j below h s10 in
    let s12 = c.four_steps-v-12.ensures j below h s11 in
    let s13 = c.four_steps-v-13.ensures j below h s12 in
    let s14 = c.four_steps-v-14.ensures j below h s13 in
    let s15 = c.four_steps-v-15.ensures j below h s14 in
    c.four_steps.ensures j below h s15
