use Rattle.std.proofs.Common.{◌≡◌, drop}
use Rattle.grammar.specs.Reading.{has_pair}
use Rattle.texts.proofs.lines.SoFar.has_pair.Given as goal

abbrev pub invariant-loop-tie : goal.invariant-loop-tie
invariant-loop-tie g l = has_pair (drop l.tie-index l.self.ties.now) l.from l.to ≡ has_pair l.self.ties.now l.from l.to
