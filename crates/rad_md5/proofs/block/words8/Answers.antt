use Rattle.std.proofs.Common.{refl}
use Rattle.md5.specs.Md5.{block_words}
use Rattle.rad_md5.proofs.block.words8.Goals as goal

pub returns : goal.returns
unfolding block_words
returns c = λ j below.
    rw (
      c.words_at.ensures j below,
      c.words_at-2.ensures j below,
      c.words_at-3.ensures j below,
      c.words_at-4.ensures j below,
      c.words_at-5.ensures j below,
      c.words_at-6.ensures j below,
      c.words_at-7.ensures j below,
      c.words_at-8.ensures j below,
      c.words_at-9.ensures j below,
      c.words_at-10.ensures j below,
      c.words_at-11.ensures j below,
      c.words_at-12.ensures j below,
      c.words_at-13.ensures j below,
      c.words_at-14.ensures j below,
      c.words_at-15.ensures j below,
      c.words_at-16.ensures j below,
    ) refl
