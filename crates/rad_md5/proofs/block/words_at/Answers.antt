use Rattle.rad_md5.proofs.LaneLemmas.{below_eight}
use Rattle.rad_md5.proofs.block.words_at.Goals as goal

pub returns : goal.returns
returns c = below_eight _ c.word.ensures c.word-2.ensures c.word-3.ensures c.word-4.ensures
    c.word-5.ensures c.word-6.ensures c.word-7.ensures c.word-8.ensures
