use Rattle.std.proofs.Common.{◌≡◌, ℕ, ◌<◌, length, get_or, take}
use Rattle.verdicts.specs.Tallying.{kind_count}
use Rattle.verdicts.proofs.tallying.tally.Given as goal

abbrev pub invariant-loop-vertex : goal.invariant-loop-vertex
invariant-loop-vertex l = (k : ℕ) → k < length l.counts → get_or l.counts k 0 ≡ kind_count k (take l.vertex-index l.vertices)
