use Rattle.std.proofs.Common.{◌≡◌, ◌≤◌, length, take}
use Rattle.graphs.specs.Parts.{below}
use Rattle.sheets.proofs.part.answers.PartSheet.size.Given as goal

abbrev pub invariant-loop-pick : goal.invariant-loop-pick
invariant-loop-pick g l = (l.size ≤ l.pick-index) × (l.size ≡ length (below l.size_below (take l.pick-index (l.picks))))
