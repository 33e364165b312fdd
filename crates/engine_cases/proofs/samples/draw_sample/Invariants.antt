use Rattle.std.proofs.Common.{◌≡◌, length}
use Rattle.engine_cases.proofs.samples.draw_sample.Given as goal

abbrev pub invariant-loop-from : goal.invariant-loop-from
invariant-loop-from g l = length l.labels.items ≡ l.from
