-- Pieces that are added at the end leave the graphs of those before them as they were.
use Rattle.std.proofs.Common.{◌≡◌, ℕ, zero, suc, ◌+◌, ◌<◌, true, List, [], ◌∷◌, ◌++◌, length, get_or, Some, refl, ap, ◌∙◌, zero-add, arith}
use Rattle.std.specs.List.{slice_get}
use Rattle.std.proofs.lemmas.List.{length_push, get_or_push}
use Rattle.std.proofs.lemmas.Bool.{and_from, and_parts}
use Rattle.graphs.specs.declared.Code.{Code}
use Rattle.graphs.specs.Graphs.{Graph}
use Rattle.network.specs.Pieces.{Piece, vertex, no_graph, single, graph_from, graphs_after, graphs, graph_at}
use Rattle.network.specs.Rules.{good_piece, good_pieces}
use Rattle.network.proofs.Pieces.{graphs_stay}

graphs_append : (gs : List (Graph Code)) (ps qs : List Piece) → graphs_after gs (ps ++ qs) ≡ graphs_after (graphs_after gs ps) qs
graphs_append gs [] qs = refl
graphs_append gs (p ∷ ps) qs = graphs_append (gs ++ graph_from gs p ∷ []) ps qs

graphs_count : (gs : List (Graph Code)) (ps : List Piece) → length (graphs_after gs ps) ≡ length gs + length ps
graphs_count gs [] = omega arith
graphs_count gs (p ∷ ps) = omega (arith, graphs_count (gs ++ graph_from gs p ∷ []) ps, length_push gs (graph_from gs p))

pub length-graphs : (ps : List Piece) → length (graphs ps) ≡ length ps
length-graphs ps = graphs_count [] ps ∙ zero-add (length ps)

pub graph_stays : (ps more : List Piece) (k : ℕ) → k < length ps → graph_at (ps ++ more) k ≡ graph_at ps k
graph_stays ps more k h =
    ap (λ gs. get_or gs k no_graph) (graphs_append [] ps more) ∙ graphs_stay (graphs ps) more k (omega (arith, length-graphs ps))

pub graph_added : (ps : List Piece) (p : Piece) → graph_at (ps ++ p ∷ []) (length ps) ≡ graph_from (graphs ps) p
graph_added ps p =
    ap (λ gs. get_or gs (length ps) no_graph) (graphs_append [] ps (p ∷ [])) ∙ get_or_push (graphs ps) (graph_from (graphs ps) p) no_graph (length ps) (length-graphs ps)

vertex_after : (c : Code) (gs : List (Graph Code)) (ps : List Piece) (i k : ℕ) → length gs + i ≡ k → slice_get ps i ≡ Some (vertex c) → get_or (graphs_after gs ps) k no_graph ≡ single c
vertex_after c gs [] i k at e = let never : ◌≡◌ {A = ℕ} 0 1 = cc in let none : ⊥ = omega arith in absurd none
vertex_after c gs (p ∷ ps) zero k at e =
    let g = graph_from gs p in
    let same : p ≡ vertex c = cc in
    graphs_stay (gs ++ g ∷ []) ps k (omega (arith, length_push gs g)) ∙ get_or_push gs g no_graph k (omega arith) ∙ ap (graph_from gs) same
vertex_after c gs (p ∷ ps) (suc i) k at e =
    vertex_after c (gs ++ graph_from gs p ∷ []) ps i k (omega (arith, length_push gs (graph_from gs p))) e

pub graph_of_vertex : (c : Code) (ps : List Piece) (k : ℕ) → slice_get ps k ≡ Some (vertex c) → graph_at ps k ≡ single c
graph_of_vertex c ps k e = vertex_after c [] ps k k (zero-add k) e

pub good_added : (gs : List (Graph Code)) (ps : List Piece) (p : Piece) → good_pieces gs ps ≡ true → good_piece (graphs_after gs ps) p ≡ true → good_pieces gs (ps ++ p ∷ []) ≡ true
good_added gs [] p h k = and_from (good_piece gs p) true k refl
good_added gs (q ∷ qs) p h k =
    let r = and_parts (good_piece gs q) (good_pieces (gs ++ graph_from gs q ∷ []) qs) h in
    and_from (good_piece gs q) (good_pieces (gs ++ graph_from gs q ∷ []) (qs ++ p ∷ [])) r.0 (good_added (gs ++ graph_from gs q ∷ []) qs p r.1 k)
