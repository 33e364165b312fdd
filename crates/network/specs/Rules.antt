-- The rules that a book keeps, as tests of its pieces and patterns.
use Rattle.std.specs.Prelude.{◌≡◌, ℕ, ◌+◌, Bool, true, cond, not, ◌&&◌, ◌||◌, List, [], ◌∷◌, ◌++◌, length, Some, sum_by, ◌==◌, nat_le, nat_lt, slice_index_or}
use Rattle.std.specs.List.{list_all, list_any}
use Rattle.graphs.specs.declared.Code.{Code}
use Rattle.graphs.specs.declared.Tie.{Tie}
use Rattle.graphs.specs.Graphs.{Graph}
use Rattle.graphs.specs.Alike.{alike}
use Rattle.network.specs.Limits.{most_vertices, most_pieces, most_stored_ties, most_patterns, lowest_code, highest_code}
use Rattle.network.specs.Pieces.{Piece, vertex, join, Pattern, no_graph, graph_from, graphs, stored_ties}

-- whether the number is in the list
abbrev pub has : List ℕ → ℕ → Bool
has xs v = list_any (λ x. x == v) xs

abbrev pub good_code : Code → Bool
good_code c = nat_le lowest_code c.number && nat_le c.number highest_code

-- every code of the graph is a good one
pub record GoodCodes (g : Graph Code) : Type 0 where
  pub labels : (v : ℕ) (c : Code) → g.label v ≡ Some c → good_code c ≡ true
  pub ties : (u v : ℕ) (c : Code) → g.tie u v ≡ Some c → good_code c ≡ true

-- whether a tie among n vertices runs between the first m and the others
abbrev pub crosses : ℕ → ℕ → Tie Code → Bool
crosses m n t = nat_lt t.from n && (nat_lt t.to n && cond (nat_lt t.from m) (nat_le m t.to) (nat_lt t.to m))

abbrev pub earlier : Tie Code → Tie Code → Bool
earlier t u = nat_lt t.from u.from || (t.from == u.from && nat_lt t.to u.to)

-- by from, and then by to
abbrev pub ascend : List (Tie Code) → Bool
ascend [] = true
ascend (t ∷ ts) = list_all (earlier t) ts && ascend ts

-- whether the stored ties between a first part of m vertices and a second of n are good ones
abbrev pub good_ties : ℕ → ℕ → List (Tie Code) → Bool
good_ties m n ts = list_all (crosses m (m + n)) ts && (list_all (λ t. good_code t.label) ts && ascend ts)

-- whether a piece is good after those with these graphs: its parts are among them, and its ties run between the parts
abbrev pub good_piece : List (Graph Code) → Piece → Bool
good_piece gs (vertex c) = good_code c
good_piece gs (join a b ts) = nat_lt a (length gs) && (nat_lt b (length gs) && good_ties (slice_index_or gs a no_graph).size (slice_index_or gs b no_graph).size ts)

abbrev pub good_pieces : List (Graph Code) → List Piece → Bool
good_pieces gs [] = true
good_pieces gs (p ∷ ps) = good_piece gs p && good_pieces (gs ++ graph_from gs p ∷ []) ps

abbrev pub none_alike : List (Graph Code) → Bool
none_alike [] = true
none_alike (g ∷ gs) = list_all (λ h. not (alike g h)) gs && none_alike gs

abbrev pub none_twice : List ℕ → Bool
none_twice [] = true
none_twice (v ∷ vs) = not (has vs v) && none_twice vs

-- whether the numbers are those below n, each once
abbrev pub permutes : ℕ → List ℕ → Bool
permutes n seats = length seats == n && (list_all (λ v. nat_lt v n) seats && none_twice seats)

abbrev pub good_pattern : List (Graph Code) → Pattern → Bool
good_pattern gs p = nat_lt p.piece (length gs) && permutes (slice_index_or gs p.piece no_graph).size p.seats

-- whether that many patterns and these pieces are within the limits
abbrev pub within : List Piece → ℕ → Bool
within ps patterns =
    list_all (λ g. nat_le g.size most_vertices) (graphs ps) &&
    (nat_le (length ps) most_pieces && (nat_le (sum_by stored_ties ps) most_stored_ties && nat_le patterns most_patterns))

abbrev pub keeps_rules : List Piece → List Pattern → Bool
keeps_rules ps patterns =
    good_pieces [] ps && (none_alike (graphs ps) && (list_all (good_pattern (graphs ps)) patterns && within ps (length patterns)))
