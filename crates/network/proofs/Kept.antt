-- What the rules give of a book's tables.
use Rattle.std.proofs.Common.{◌≡◌, ℕ, ◌+◌, ◌<◌, ◌≤◌, Bool, true, ◌&&◌, ltb, leb, [], length, get_or, take, drop, Some, Decides, sum_by, sym, ap, ◌∙◌, zero-add, arith}
use Rattle.std.specs.List.{slice_get, list_all}
use Rattle.std.proofs.ByRecursion.{All-get_or}
use Rattle.std.proofs.lemmas.List.{length-map, get_or-map, get_or_past}
use Rattle.std.proofs.lemmas.Option.{slice_get-get_or}
use Rattle.std.proofs.lemmas.Bool.{and_parts, leb-true, ltb-true}
use Rattle.std.proofs.lemmas.Bool.Decides.{Decides-like, Decides-and, Decides-eqb}
use Rattle.graphs.proofs.Occurrences.{every_below_decides}
use Rattle.graphs.specs.declared.Code.{Code}
use Rattle.graphs.specs.Graphs.{Sound}
use Rattle.network.specs.declared.tables.SizedPiece.{SizedPiece}
use Rattle.network.specs.declared.tables.StoredPattern.{StoredPattern}
use Rattle.network.specs.declared.tables.StoredPiece.TheVariants.{Vertex, Join}
use Rattle.network.specs.declared.tables.Tables.{Tables}
use Rattle.network.specs.Limits.{most_vertices, most_pieces, most_stored_ties, most_patterns}
use Rattle.network.specs.Pieces.{join, no_graph, single, union, graphs, graph_at, stored_ties}
use Rattle.network.specs.Rules.{good_pieces, none_alike, good_pattern, permutes, within, keeps_rules}
use Rattle.network.specs.Tables.{piece_of, pattern_of, pieces_in, patterns_in, run_within, sizes_in, keeps_book, Kept}
use Rattle.network.proofs.Additions.{length-graphs, graph_of_vertex}
use Rattle.network.proofs.Goods.{Good, good_at}
use Rattle.network.proofs.Permutations.{Permutes, permutes_decides}
use Rattle.network.proofs.Pieces.{graph_of_join}
use Rattle.network.proofs.Sounds.{graph_sound}
use Rattle.network.proofs.Splits.{every_to}

-- the parts of the test on tables
pub record Laid (t : Tables) : Type 0 where
  pub runs : list_all (run_within (length t.ties.items)) t.pieces.items ≡ true
  pub counted : length t.ties.items ≡ sum_by stored_ties (pieces_in t)
  pub noted : (k : ℕ) → k < length t.pieces.items → get_or (sizes_in t) k 0 ≡ (graph_at (pieces_in t) k).size
  pub rules : keeps_rules (pieces_in t) (patterns_in t) ≡ true

itself : (b : Bool) → Decides b (b ≡ true)
itself b = ((λ e. e), (λ e. e))

pub kept_decides : (t : Tables) → Decides (keeps_book t) (Laid t)
kept_decides t =
    Decides-like (keeps_book t) (λ h. record { runs = h.0; counted = h.1.0; noted = h.1.1.0; rules = h.1.1.1 })
    (λ l. (l.runs, (l.counted, (l.noted, l.rules))))
    (Decides-and _ _ (itself _)
    (Decides-and _ _ (Decides-eqb _ _)
    (Decides-and _ _ (every_below_decides _ _ (λ k. Decides-eqb _ _) (length t.pieces.items)) (itself _))))

pub laid_out : (t : Tables) → Kept t → Laid t
laid_out t kept = (kept_decides t).0 kept

-- piece and pattern k of any tables, from what stands there
module _ (t : Tables) where
  pub length-pieces_in : length (pieces_in t) ≡ length t.pieces.items
  length-pieces_in = length-map t.pieces.items (λ p. piece_of t.ties.items p.piece)

  pub length-graphs_in : length (graphs (pieces_in t)) ≡ length t.pieces.items
  length-graphs_in = length-graphs (pieces_in t) ∙ length-pieces_in

  pub length-patterns_in : length (patterns_in t) ≡ length t.patterns.items
  length-patterns_in = length-map t.patterns.items pattern_of

  pub no_piece_lem : (k : ℕ) → length t.pieces.items ≤ k → graph_at (pieces_in t) k ≡ no_graph
  no_piece_lem k h = get_or_past (graphs (pieces_in t)) k no_graph (omega (arith, length-graphs_in))

  pub piece_at_lem : (k : ℕ) (d : SizedPiece) → k < length t.pieces.items → slice_get (pieces_in t) k ≡ Some (piece_of t.ties.items (get_or t.pieces.items k d).piece)
  piece_at_lem k d low =
      slice_get-get_or (pieces_in t) k (piece_of t.ties.items d.piece) (omega (arith, length-pieces_in))
      ∙ ap Some (get_or-map (λ p. piece_of t.ties.items p.piece) t.pieces.items k d (piece_of t.ties.items d.piece) low)

  pub pattern_at_lem : (k : ℕ) (d : StoredPattern) → k < length t.patterns.items → slice_get (patterns_in t) k ≡ Some (pattern_of (get_or t.patterns.items k d))
  pattern_at_lem k d low =
      slice_get-get_or (patterns_in t) k (pattern_of d) (omega (arith, length-patterns_in))
      ∙ ap Some (get_or-map pattern_of t.patterns.items k d (pattern_of d) low)

-- of tables that keep the rules of a book
module _ (t : Tables) (kept : Kept t) where
  laid : Laid t
  laid = laid_out t kept

  parts : (good_pieces [] (pieces_in t) ≡ true) × ((none_alike (graphs (pieces_in t)) && (list_all (good_pattern (graphs (pieces_in t))) (patterns_in t) && within (pieces_in t) (length (patterns_in t)))) ≡ true)
  parts = and_parts (good_pieces [] (pieces_in t)) (none_alike (graphs (pieces_in t)) && (list_all (good_pattern (graphs (pieces_in t))) (patterns_in t) && within (pieces_in t) (length (patterns_in t)))) laid.rules

  pub pieces_good : good_pieces [] (pieces_in t) ≡ true
  pieces_good = parts.0

  others : (none_alike (graphs (pieces_in t)) ≡ true) × ((list_all (good_pattern (graphs (pieces_in t))) (patterns_in t) && within (pieces_in t) (length (patterns_in t))) ≡ true)
  others = and_parts (none_alike (graphs (pieces_in t))) (list_all (good_pattern (graphs (pieces_in t))) (patterns_in t) && within (pieces_in t) (length (patterns_in t))) parts.1

  pub pieces_unlike : none_alike (graphs (pieces_in t)) ≡ true
  pieces_unlike = others.0

  last : (list_all (good_pattern (graphs (pieces_in t))) (patterns_in t) ≡ true) × (within (pieces_in t) (length (patterns_in t)) ≡ true)
  last = and_parts (list_all (good_pattern (graphs (pieces_in t))) (patterns_in t)) (within (pieces_in t) (length (patterns_in t))) others.1

  pub patterns_good : list_all (good_pattern (graphs (pieces_in t))) (patterns_in t) ≡ true
  patterns_good = last.0

  pub tables_within : within (pieces_in t) (length (patterns_in t)) ≡ true
  tables_within = last.1

  pub piece_sound : (k : ℕ) → Sound (graph_at (pieces_in t) k)
  piece_sound = graph_sound (pieces_in t) pieces_good

  limits : (list_all (λ g. leb g.size most_vertices) (graphs (pieces_in t)) ≡ true) × ((leb (length (pieces_in t)) most_pieces && (leb (sum_by stored_ties (pieces_in t)) most_stored_ties && leb (length (patterns_in t)) most_patterns)) ≡ true)
  limits = and_parts (list_all (λ g. leb g.size most_vertices) (graphs (pieces_in t))) (leb (length (pieces_in t)) most_pieces && (leb (sum_by stored_ties (pieces_in t)) most_stored_ties && leb (length (patterns_in t)) most_patterns)) tables_within

  counts : (leb (sum_by stored_ties (pieces_in t)) most_stored_ties ≡ true) × (leb (length (patterns_in t)) most_patterns ≡ true)
  counts =
      let pieces = and_parts (leb (length (pieces_in t)) most_pieces) (leb (sum_by stored_ties (pieces_in t)) most_stored_ties && leb (length (patterns_in t)) most_patterns) limits.1 in
      and_parts (leb (sum_by stored_ties (pieces_in t)) most_stored_ties) (leb (length (patterns_in t)) most_patterns) pieces.1

  pub ties_few : length t.ties.items ≤ most_stored_ties
  ties_few = omega (arith, leb-true (sum_by stored_ties (pieces_in t)) most_stored_ties counts.0, laid.counted)

  pub patterns_few : length (patterns_in t) ≤ most_patterns
  patterns_few = leb-true (length (patterns_in t)) most_patterns counts.1

  sizes_few : list_all (λ g. leb g.size most_vertices) (graphs (pieces_in t)) ≡ true
  sizes_few = limits.0

  pub piece_small : (k : ℕ) → k < length t.pieces.items → (graph_at (pieces_in t) k).size ≤ most_vertices
  piece_small k h =
      leb-true (graph_at (pieces_in t) k).size most_vertices
      (All-get_or (λ g. leb g.size most_vertices ≡ true) (graphs (pieces_in t)) k no_graph (omega (arith, length-graphs_in t)) (every_to (λ g. leb g.size most_vertices) (graphs (pieces_in t)) sizes_few))

  -- piece k, from what stands there
  module _ (k : ℕ) (low : k < length t.pieces.items) (d : SizedPiece) where
    pub size_at : (get_or t.pieces.items k d).size ≡ (graph_at (pieces_in t) k).size
    size_at = sym (get_or-map (λ p. p.size) t.pieces.items k d 0 low) ∙ laid.noted k low

    pub vertex_graph : (c : Code) → (get_or t.pieces.items k d).piece ≡ Vertex c → graph_at (pieces_in t) k ≡ single c
    vertex_graph c e = graph_of_vertex c (pieces_in t) k (piece_at_lem t k d low ∙ ap (λ p. Some (piece_of t.ties.items p)) e)

    module _ (a b from n : ℕ) (e : (get_or t.pieces.items k d).piece ≡ Join a b from n) where
      pub run_within_lem : from + n ≤ length t.ties.items
      run_within_lem =
          leb-true (from + n) (length t.ties.items)
          (sym (ap (λ p. run_within (length t.ties.items) (record { piece = p; size = (get_or t.pieces.items k d).size })) e)
          ∙ All-get_or (λ p. run_within (length t.ties.items) p ≡ true) t.pieces.items k d low (every_to (run_within (length t.ties.items)) t.pieces.items laid.runs))

      join_at : slice_get (pieces_in t) k ≡ Some (join a b (take n (drop from t.ties.items)))
      join_at = piece_at_lem t k d low ∙ ap (λ p. Some (piece_of t.ties.items p)) e

      pub join_good : Good (graphs (pieces_in t)) k a b (take n (drop from t.ties.items))
      join_good = good_at a b (take n (drop from t.ties.items)) [] (pieces_in t) k k (zero-add k) join_at pieces_good

      pub join_graph : graph_at (pieces_in t) k ≡ union (graph_at (pieces_in t) a) (graph_at (pieces_in t) b) (take n (drop from t.ties.items))
      join_graph = graph_of_join a b (take n (drop from t.ties.items)) (pieces_in t) k join_at join_good.first join_good.second

  -- pattern k
  module _ (k : ℕ) (low : k < length t.patterns.items) (d : StoredPattern) where
    good : good_pattern (graphs (pieces_in t)) (pattern_of (get_or t.patterns.items k d)) ≡ true
    good =
        ap (good_pattern (graphs (pieces_in t))) (sym (get_or-map pattern_of t.patterns.items k d (pattern_of d) low))
        ∙ All-get_or (λ p. good_pattern (graphs (pieces_in t)) p ≡ true) (patterns_in t) k (pattern_of d) (omega (arith, length-patterns_in t)) (every_to (good_pattern (graphs (pieces_in t))) (patterns_in t) patterns_good)

    halves : (ltb (get_or t.patterns.items k d).piece (length (graphs (pieces_in t))) ≡ true) × (permutes (graph_at (pieces_in t) (get_or t.patterns.items k d).piece).size (get_or t.patterns.items k d).seats.items ≡ true)
    halves = and_parts (ltb (get_or t.patterns.items k d).piece (length (graphs (pieces_in t)))) (permutes (graph_at (pieces_in t) (get_or t.patterns.items k d).piece).size (get_or t.patterns.items k d).seats.items) good

    pub pattern_piece : (get_or t.patterns.items k d).piece < length t.pieces.items
    pattern_piece = omega (arith, ltb-true (get_or t.patterns.items k d).piece (length (graphs (pieces_in t))) halves.0, length-graphs_in t)

    pub pattern_seats : Permutes (graph_at (pieces_in t) (get_or t.patterns.items k d).piece).size (get_or t.patterns.items k d).seats.items
    pattern_seats = (permutes_decides (graph_at (pieces_in t) (get_or t.patterns.items k d).piece).size (get_or t.patterns.items k d).seats.items).0 halves.1
