-- The graph that a list of vertex labels and a list of ties stand for.
use Rattle.std.specs.Prelude.{ℕ, Bool, cond, not, ◌&&◌, List, length, None, Option, ◌==◌, nat_lt}
use Rattle.std.specs.List.{slice_get, find}
use Rattle.std.specs.Option.{option_map}
use Rattle.graphs.specs.declared.Tie.{Tie}
use Rattle.graphs.specs.Graphs.{Graph}

-- whether a tie runs from u to v
abbrev pub runs : {L : Type 0} → ℕ → ℕ → Tie L → Bool
runs u v t = t.from == u && t.to == v

-- the label of the first tie of the list from u to v
abbrev pub first_tie : {L : Type 0} → List (Tie L) → ℕ → ℕ → Option L
first_tie ts u v = option_map (λ t. t.label) (find (runs u v) ts)

-- whether a tie from u to v counts among n vertices: both are there, and they differ
abbrev pub counts : ℕ → ℕ → ℕ → Bool
counts n u v = nat_lt u n && nat_lt v n && not (u == v)

abbrev pub table_graph : {L : Type 0} → List L → List (Tie L) → Graph L
table_graph ls ts = record {
  size = length ls;
  label = slice_get ls;
  tie = λ u v. cond (counts (length ls) u v) (first_tie ts u v) None;
}
