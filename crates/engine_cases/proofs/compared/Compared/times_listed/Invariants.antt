use Rattle.std.proofs.Common.{◌+◌, ◌≤◌, length}
use Rattle.engine_cases.proofs.compared.Compared.times_listed.Given as goal

abbrev pub invariant-loop-first : goal.invariant-loop-first
invariant-loop-first g l = l.times + length l.rest ≤ length l.self.numbers.now

abbrev pub decreases-loop-first : goal.decreases-loop-first
decreases-loop-first g l = length l.rest
