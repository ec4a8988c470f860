use Rattle.std.proofs.Common.{◌-◌, ◌∙◌, length, drop, arith}
use Rattle.std.proofs.lemmas.List.{length-drop, take_all}
use Rattle.rad_md5.proofs.BlockLemmas.{ends_written}
use Rattle.rad_md5.proofs.block.write_ends.Goals as goal

pub returns : goal.returns
returns g c =
    let part = c.args.part.now in
    let size = length-drop (length part - g.row.K) part in
    ends_written c.args.block.now part _ _ c.args.at g.row.K _ _ (omega (arith, c.requires.room, c.told-block)) c.requires.cover.0
    c.requires.cover.1
    (c.copy_from_slice-3.ensures.after ∙ c.copy_from_slice.ensures.after)
    (c.copy_from_slice-4.ensures.after ∙ c.copy_from_slice-2.ensures.after
    ∙ take_all (length part - (length part - g.row.K)) (drop (length part - g.row.K) part) (omega (arith, size)))
