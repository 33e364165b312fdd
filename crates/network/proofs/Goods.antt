-- A good joined piece: its parts come before it, with good ties between them.
use Rattle.std.proofs.Common.{◌≡◌, ℕ, zero, suc, ◌+◌, ◌<◌, true, ◌&&◌, ltb, List, [], ◌∷◌, ◌++◌, length, get_or, Some, sym, ap, ◌∙◌, arith}
use Rattle.std.specs.List.{slice_get}
use Rattle.std.proofs.lemmas.List.{length_push}
use Rattle.std.proofs.lemmas.Bool.{and_parts, ltb-true}
use Rattle.graphs.specs.declared.Code.{Code}
use Rattle.graphs.specs.declared.Tie.{Tie}
use Rattle.graphs.specs.Graphs.{Graph}
use Rattle.network.specs.Pieces.{Piece, join, no_graph, graph_from, graphs_after}
use Rattle.network.specs.Rules.{good_ties, good_piece, good_pieces}
use Rattle.network.proofs.Pieces.{graphs_stay}

-- what a good joined piece is: its parts come before it, with good ties between them
pub record Good (gs : List (Graph Code)) (k a b : ℕ) (ts : List (Tie Code)) : Type 0 where
  pub first : a < k
  pub second : b < k
  pub ties : good_ties (get_or gs a no_graph).size (get_or gs b no_graph).size ts ≡ true

pub good_at : (a b : ℕ) (ts : List (Tie Code)) (gs : List (Graph Code)) (ps : List Piece) (i k : ℕ) → length gs + i ≡ k → slice_get ps i ≡ Some (join a b ts) → good_pieces gs ps ≡ true → Good (graphs_after gs ps) k a b ts
good_at a b ts gs [] i k at e h = let never : ◌≡◌ {A = ℕ} 0 1 = cc in let none : ⊥ = omega arith in absurd none
good_at a b ts gs (p ∷ ps) zero k at e h =
    let same : p ≡ join a b ts = cc in
    let g : good_piece gs (join a b ts) ≡ true = ap (good_piece gs) (sym same) ∙ (and_parts (good_piece gs p) (good_pieces (gs ++ graph_from gs p ∷ []) ps) h).0 in
    let q = and_parts (ltb a (length gs)) (ltb b (length gs) && good_ties (get_or gs a no_graph).size (get_or gs b no_graph).size ts) g in
    let r = and_parts (ltb b (length gs)) (good_ties (get_or gs a no_graph).size (get_or gs b no_graph).size ts) q.1 in
    let la : a < length gs = ltb-true a (length gs) q.0 in
    let lb : b < length gs = ltb-true b (length gs) r.0 in
    record {
      first = omega arith;
      second = omega arith;
      ties = (λ x. good_ties (graphs_stay gs (p ∷ ps) a la x).size (graphs_stay gs (p ∷ ps) b lb x).size ts) ∙ r.1;
    }
good_at a b ts gs (p ∷ ps) (suc i) k at e h =
    good_at a b ts (gs ++ graph_from gs p ∷ []) ps i k (omega (arith, length_push gs (graph_from gs p))) e (and_parts (good_piece gs p) (good_pieces (gs ++ graph_from gs p ∷ []) ps) h).1
