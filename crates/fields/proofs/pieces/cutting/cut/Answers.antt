use Rattle.std.proofs.Common.{◌≡◌, length, Some, None, ◌∙◌, arith}
use Rattle.std.specs.List.{HoldsAt}
use Rattle.std.proofs.lemmas.List.{take_rest, get_or_default}
use Rattle.fields.proofs.Splits.{cut_by}
use Rattle.fields.proofs.pieces.cutting.cut.Goals as goal

pub returns-then-byte-separator-clause-cuts : goal.returns-then-byte-separator-clause-cuts
returns-then-byte-separator-clause-cuts c =
    let s = c.args.separator in
    let there : HoldsAt (λ b. b ≡ s) c.args.text.now c.loop-end.end = λ d. get_or_default c.args.text.now c.loop-end.end d 0 (omega arith) ∙ c.if-byte-separator.true in
    rw take_rest (cut_by s c.args.text.now (Some c.loop-end.end) (omega arith, there, c.loop-end.invariant))

pub returns-clause-cuts : goal.returns-clause-cuts
returns-clause-cuts c =
    let all : c.loop-end.end ≡ length c.args.text.now = omega arith in
    cut_by c.args.separator c.args.text.now None (rw all at c.loop-end.invariant)
