-- How many labels of a list are of one kind.
use Rattle.std.specs.Prelude.{ℕ, ◌+◌, cond, List, [], ◌∷◌, ◌==◌}
use Rattle.graphs.specs.declared.Pay.{Pay}

abbrev pub kind_count : ℕ → List Pay → ℕ
kind_count k [] = 0
kind_count k (p ∷ ps) = cond (p.kind == k) 1 0 + kind_count k ps
