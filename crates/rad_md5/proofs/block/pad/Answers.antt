use Rattle.std.proofs.Common.{◌≡◌, ◌-◌, ◌*◌, ◌%◌, ◌^◌, ◌++◌, min, take, drop, refl, sym, ap, ◌∙◌, arith}
use Rattle.std.specs.Int.{w64, to_le_bytes}
use Rattle.rad_md5.proofs.BlockLemmas.{begin, first_padding, last_padding, length_put, rest_written}
use Rattle.rad_md5.proofs.block.pad.Goals as goal

pub returns-then-at-lt-LENGTH_AT : goal.returns-then-at-lt-LENGTH_AT
returns-then-at-lt-LENGTH_AT c =
    let at = c.args.at in
    let old = c.args.block.now in
    let over = c.args.n * 64 - c.args.len in
    let start : c.min-start.result ≡ min over 1 = omega (arith, c.min-start.ensures, c.saturating_sub.ensures) in
    let whole = rest_written old c.write.new.block begin at (min over 1) c.min-start.result c.write.array_long c.requires.room refl
    (omega arith) start c.write.ensures in
    let low : c.args.len * 8 % 2 ^ 64 ≡ c.args.len * 8 = omega (arith, c.requires.short) in
    let end = c.copy_from_slice.ensures.after ∙ c.to_le_bytes.ensures ∙ ap (to_le_bytes w64) (sym low) in
    length_put old c.write.new.block _ c.copy_from_slice.new.self at c.write.array_long c.told-block c.if-at-lt-LENGTH_AT.true whole
    ∙ ap (λ rest. take at old ++ rest) (ap (λ bits. take (56 - at) (take (64 - at) (drop (min over 1) begin)) ++ bits) end
    ∙ last_padding c.args.len c.args.n at c.if-at-lt-LENGTH_AT.true c.requires.begun c.requires.over c.requires.last)

pub returns-else-at-lt-LENGTH_AT : goal.returns-else-at-lt-LENGTH_AT
returns-else-at-lt-LENGTH_AT c =
    let at = c.args.at in
    let old = c.args.block.now in
    let over = c.args.n * 64 - c.args.len in
    let start : c.min-start.result ≡ min over 1 = omega (arith, c.min-start.ensures, c.saturating_sub.ensures) in
    rest_written old c.write.new.block begin at (min over 1) c.min-start.result c.write.array_long c.requires.room refl
    (omega arith) start c.write.ensures
    ∙ ap (λ rest. take at old ++ rest)
    (first_padding c.args.len c.args.n at c.if-at-lt-LENGTH_AT.false c.requires.room c.requires.begun c.requires.over)
