use Rattle.std.proofs.Common.{arith, ◌%◌, ◌/◌, ◌∙◌, ap, w64}
use Rattle.std.specs.Int.{bit_at}
use Rattle.std.proofs.lemmas.Nat.Bits.{bit_at_clear_same, bit_at_clear_other}
use Rattle.rad_places.proofs.MarkLemmas.{write_here, write_other, read_word}
use Rattle.rad_places.proofs.marks.unmark.Goals as goal

pub returns-clause-here : goal.returns-clause-here
returns-clause-here c =
    write_here c.args.words.now.items c.args.place _ _ (omega arith) (bit_at_clear_same w64 _ (c.args.place % 64) (omega arith))

pub returns-clause-others : goal.returns-clause-others
returns-clause-others c = write_other c.args.words.now.items c.args.place _ (omega arith)
    (λ j lt ne. bit_at_clear_other w64 c.index-old.result.now (c.args.place % 64) (omega arith) j lt ne
    ∙ ap (λ w. bit_at w j) (read_word c.args.words.now.items (c.args.place / 64) c.index-old.result.now (omega arith)
    c.index-old.ensures))
