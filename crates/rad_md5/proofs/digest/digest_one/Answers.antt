use Rattle.std.proofs.Common.{◌++◌, ap, sym, ◌∙◌}
use Rattle.std.proofs.lemmas.List.{append_assoc}
use Rattle.md5.specs.Md5.{md5}
use Rattle.rad_md5.specs.Pieces.{message}
use Rattle.rad_md5.proofs.PieceLemmas.{message_of_five, piece}
use Rattle.rad_md5.proofs.digest.digest_one.Goals as goal

pub returns : goal.returns
returns c =
    let at = piece c.slices.result.now in
    c.finalize.ensures _ (c.update-5.ensures _
    (c.update-4.ensures _ (c.update-3.ensures _ (c.update-2.ensures _ (c.update.ensures _ c.new-hasher.ensures)))))
    ∙ ap md5 (append_assoc (at 0 ++ at 1 ++ at 2) (at 3) (at 4)
    ∙ append_assoc (at 0 ++ at 1) (at 2) (at 3 ++ at 4)
    ∙ append_assoc (at 0) (at 1) (at 2 ++ (at 3 ++ at 4))
    ∙ sym (message_of_five c.slices.result.now c.slices.ensures.five)
    ∙ ap message c.slices.ensures.value)
