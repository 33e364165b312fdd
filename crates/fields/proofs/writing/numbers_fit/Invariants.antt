use Rattle.std.proofs.Common.{◌≡◌, leb, length, drop}
use Rattle.fields.specs.Lines.{numbers_text}
use Rattle.fields.proofs.writing.numbers_fit.Given as goal

abbrev pub invariant-loop-number : goal.invariant-loop-number
invariant-loop-number l = leb (length (numbers_text (drop l.number-index l.numbers))) l.room ≡ leb (length (numbers_text l.numbers)) l.space
