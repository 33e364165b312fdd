-- The graph of a piece does not depend on the pieces after it, and that of a joined piece is made of its parts'.
use Rattle.std.proofs.Common.{◌≡◌, ℕ, zero, suc, ◌+◌, ◌<◌, List, [], ◌∷◌, ◌++◌, length, get_or, Some, sym, refl, ap, ◌∙◌, zero-add, arith}
use Rattle.std.specs.List.{slice_get}
use Rattle.std.proofs.lemmas.List.{length_push, get_or_push, get_or_append_left}
use Rattle.graphs.specs.declared.Code.{Code}
use Rattle.graphs.specs.declared.Tie.{Tie}
use Rattle.graphs.specs.Graphs.{Graph}
use Rattle.graphs.specs.Sights.{Sight}
use Rattle.graphs.specs.Occurrences.{occurrences}
use Rattle.network.specs.Pieces.{Piece, join, no_graph, union, graph_from, graphs_after, graph_at, rows_at}
use Rattle.network.specs.Joining.{join_rows}
use Rattle.network.proofs.Unions.{joined_occurrences}

pub graphs_stay : (gs : List (Graph Code)) (ps : List Piece) (i : ℕ) → i < length gs → get_or (graphs_after gs ps) i no_graph ≡ get_or gs i no_graph
graphs_stay gs [] i h = refl
graphs_stay gs (p ∷ ps) i h =
    let g = graph_from gs p in
    graphs_stay (gs ++ g ∷ []) ps i (omega (arith, length_push gs g)) ∙ get_or_append_left gs (g ∷ []) no_graph i h

module _ (a b : ℕ) (ts : List (Tie Code)) where
  -- what the graph at k is in a list of graphs: the union of those at a and b
  abbrev Joins : List (Graph Code) → ℕ → Type 0
  Joins gs k = get_or gs k no_graph ≡ union (get_or gs a no_graph) (get_or gs b no_graph) ts

  joins_after : (gs : List (Graph Code)) (ps : List Piece) (i k : ℕ) → length gs + i ≡ k → slice_get ps i ≡ Some (join a b ts) → a < k → b < k → Joins (graphs_after gs ps) k
  joins_after gs [] i k at e h l = let never : ◌≡◌ {A = ℕ} 0 1 = cc in let none : ⊥ = omega arith in absurd none
  joins_after gs (p ∷ ps) zero k at e h l =
      let g = graph_from gs p in
      let same : p ≡ join a b ts = cc in
      graphs_stay (gs ++ g ∷ []) ps k (omega (arith, length_push gs g))
      ∙ get_or_push gs g no_graph k (omega arith)
      ∙ ap (graph_from gs) same
      ∙ sym (λ t. union (graphs_stay gs (p ∷ ps) a (omega arith) t) (graphs_stay gs (p ∷ ps) b (omega arith) t) ts)
  joins_after gs (p ∷ ps) (suc i) k at e h l =
      joins_after (gs ++ graph_from gs p ∷ []) ps i k (omega (arith, length_push gs (graph_from gs p))) e h l

  module _ (ps : List Piece) (k : ℕ) (e : slice_get ps k ≡ Some (join a b ts)) (h : a < k) (l : b < k) where
    pub graph_of_join : graph_at ps k ≡ union (graph_at ps a) (graph_at ps b) ts
    graph_of_join = joins_after [] ps k k (zero-add k) e h l

    pub rows_of_join : (s : Sight) → rows_at ps s k ≡ join_rows ts s (rows_at ps s a) (rows_at ps s b)
    rows_of_join s = ap (λ g. occurrences g s) graph_of_join ∙ joined_occurrences (graph_at ps a) (graph_at ps b) ts s
