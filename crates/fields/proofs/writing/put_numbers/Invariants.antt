use Rattle.std.proofs.Common.{◌≡◌, ◌+◌, length, take, drop}
use Rattle.fields.specs.Lines.{numbers_text, overlaid}
use Rattle.fields.proofs.writing.put_numbers.Given as goal

abbrev pub invariant-loop-number : goal.invariant-loop-number
invariant-loop-number l = (l.at ≡ length (numbers_text (take l.number-index l.numbers)))
    × (l.at + length (numbers_text (drop l.number-index l.numbers)) ≡ length (numbers_text l.numbers))
    × (l.space ≡ overlaid (numbers_text (take l.number-index l.numbers)) l.initial.space)
