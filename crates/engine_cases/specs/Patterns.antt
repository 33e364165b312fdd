-- Patterns that are written as numbers.
use Rattle.std.specs.Prelude.{ℕ}
use Rattle.graphs.specs.declared.Code.{Code}
use Rattle.graphs.specs.declared.Tie.{Tie}

abbrev pub code_of : ℕ → Code
code_of n = record { number = n }

-- a link: from, to, code
abbrev pub tie_of : ℕ × ℕ × ℕ → Tie Code
tie_of link = record { from = link.0; to = link.1; label = code_of link.2 }
