-- The lists of pieces and patterns that a book's tables stand for, and the rules that the tables keep.
use Rattle.std.specs.Prelude.{◌≡◌, ℕ, ◌+◌, Bool, true, ◌&&◌, List, map, length, take, drop, sum_by, ◌==◌, nat_eq, nat_le, nat_lt, slice_index}
use Rattle.std.specs.List.{list_all}
use Rattle.graphs.specs.declared.Code.{Code}
use Rattle.graphs.specs.declared.Tie.{Tie}
use Rattle.graphs.specs.Occurrences.{every_below}
use Rattle.network.specs.declared.tables.SizedPiece.{SizedPiece}
use Rattle.network.specs.declared.tables.StoredPattern.{StoredPattern}
use Rattle.network.specs.declared.tables.StoredPiece.{StoredPiece}
use Rattle.network.specs.declared.tables.StoredPiece.TheVariants.{Vertex, Join}
use Rattle.network.specs.declared.tables.Tables.{Tables}
use Rattle.network.specs.Limits.{most_patterns}
use Rattle.network.specs.Pieces.{Piece, Pattern, vertex, join, graphs, graph_at, stored_ties}
use Rattle.network.specs.Rules.{good_pattern, keeps_rules}

-- a piece with its run of the stored ties
abbrev pub piece_of : List (Tie Code) → StoredPiece → Piece
piece_of ties (Vertex c) = vertex c
piece_of ties (Join first second from count) = join first second (take count (drop from ties))

abbrev pub pattern_of : StoredPattern → Pattern
pattern_of p = record { piece = p.piece; seats = p.seats.items }

abbrev pub pieces_in : Tables → List Piece
pieces_in t = map (λ p. piece_of t.ties.items p.piece) t.pieces.items

abbrev pub patterns_in : Tables → List Pattern
patterns_in t = map pattern_of t.patterns.items

-- whether a piece's run of ties lies within the first n stored ones
abbrev pub run_within : ℕ → SizedPiece → Bool
run_within n p = elim p.piece [ Vertex c ↦ true | Join first second from count ↦ nat_le (from + count) n ]

-- the sizes that are noted
abbrev pub sizes_in : Tables → List ℕ
sizes_in t = map (λ p. p.size) t.pieces.items

-- whether the size of each piece is noted
abbrev pub sizes_noted : Tables → Bool
sizes_noted t = every_below (length t.pieces.items) (λ k. nat_eq (slice_index (sizes_in t) k) (graph_at (pieces_in t) k).size)

-- whether the tables keep the rules of a book and are laid out well: runs are within the stored ties, as many ties are stored as the pieces have, and the size of each piece is noted
abbrev pub keeps_book : Tables → Bool
keeps_book t =
    list_all (run_within (length t.ties.items)) t.pieces.items &&
    (length t.ties.items == sum_by stored_ties (pieces_in t) && (sizes_noted t && keeps_rules (pieces_in t) (patterns_in t)))

abbrev pub Kept : Tables → Type 0
Kept t = keeps_book t ≡ true

-- whether the pattern can be added to the tables' patterns: there is room, and its seats permute the vertices of its piece
abbrev pub can_add : Tables → StoredPattern → Bool
can_add t p = nat_lt (length t.patterns.items) most_patterns && good_pattern (graphs (pieces_in t)) (pattern_of p)
