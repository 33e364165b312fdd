use Rattle.std.proofs.Common.{◌≡◌, drop}
use Rattle.network.specs.Ledger.{good_ends}
use Rattle.patterns.proofs.are_good_ties.Given as goal

abbrev pub invariant-loop-i : goal.invariant-loop-i
invariant-loop-i l = good_ends l.size (drop l.i l.ties) ≡ good_ends l.size l.ties
