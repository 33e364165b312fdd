-- When one tie of a pattern is a good one.
use Rattle.std.specs.Prelude.{ℕ, Bool, not, ◌&&◌, ◌==◌, nat_lt}
use Rattle.graphs.specs.declared.Code.{Code}
use Rattle.graphs.specs.declared.Tie.{Tie}
use Rattle.network.specs.Rules.{good_code}

-- whether a tie runs from one of n vertices to another, with a good code
abbrev pub good_tie : ℕ → Tie Code → Bool
good_tie n t = nat_lt t.from n && (nat_lt t.to n && (not (t.from == t.to) && good_code t.label))
