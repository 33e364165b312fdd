use Rattle.fields.specs.Split.{left, given}
use Rattle.std.proofs.Common.{◌+◌, length}
use Rattle.texts.proofs.Filling.{Filling}
use Rattle.texts.proofs.reader.read_lines.Given as given-here

abbrev pub invariant-loop-line : given-here.invariant-loop-line
invariant-loop-line g l =
    Filling g.L.Label.form l.number l.text l.initial.vertices l.initial.ties l.progress l.vertices l.ties (given l.lines + 1) (left l.lines)

abbrev pub decreases-loop-line : given-here.decreases-loop-line
decreases-loop-line g l = length (left l.lines)
