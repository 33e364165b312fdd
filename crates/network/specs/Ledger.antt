-- The ledger: what a book holds after any finite list of enters, worked out from their arguments alone. A load is the other call that changes a ledger; it is not here, since the text of a book has no definition yet. It will be one more kind of change beside `Entering`.
use Rattle.std.specs.Prelude.{ℕ, ◌+◌, Bool, true, cond, not, ◌&&◌, List, [], ◌∷◌, ◌++◌, map, length, Ok, Err, Result, ◌==◌, nat_le, nat_lt}
use Rattle.std.specs.List.{list_all}
use Rattle.graphs.specs.declared.Code.{Code}
use Rattle.graphs.specs.declared.Tie.{Tie}
use Rattle.graphs.specs.Graphs.{Graph}
use Rattle.graphs.specs.Tables.{runs, table_graph}
use Rattle.network.specs.declared.EnterRefusal.{EnterRefusal}
use Rattle.network.specs.declared.EnterRefusal.TheVariants.{BadPattern, BookFull}
use Rattle.network.specs.Limits.{most_vertices}
use Rattle.network.specs.Pieces.{Piece, Pattern}
use Rattle.network.specs.Rules.{good_code, within}
use Rattle.network.specs.Cutting.{Cut, cut_whole}

abbrev pub enter_refusal_number : EnterRefusal → ℕ
enter_refusal_number BadPattern = 9
enter_refusal_number BookFull = 10

-- a pattern's own graph, and how the book has it
pub record Entry : Type 0 where
  pub graph : Graph Code
  pub pattern : Pattern

pub record Ledger : Type 0 where
  pub pieces : List Piece
  pub entries : List Entry

abbrev pub blank : Ledger
blank = record { pieces = []; entries = [] }

abbrev pub patterns : Ledger → List Pattern
patterns l = map (λ e. e.pattern) l.entries

-- whether every tie is in range, from one vertex to another, with a good code, and none repeats an earlier one
abbrev pub good_ends : ℕ → List (Tie Code) → Bool
good_ends n [] = true
good_ends n (t ∷ ts) =
    (nat_lt t.from n && (nat_lt t.to n && (not (t.from == t.to) && good_code t.label))) &&
    (list_all (λ u. not (runs t.from t.to u)) ts && good_ends n ts)

-- whether codes and ties make a pattern that can be entered
abbrev pub can_enter : List Code → List (Tie Code) → Bool
can_enter cs ts = nat_le 1 (length cs) && (nat_le (length cs) most_vertices && (list_all good_code cs && good_ends (length cs) ts))

-- what a taken enter gives: the pattern's number, and the ledger after it
pub record Entered : Type 0 where
  pub number : ℕ
  pub ledger : Ledger

abbrev pub added : Ledger → Graph Code → Cut → Entered
added l g c = record {
  number = length l.entries;
  ledger = record { pieces = c.pieces; entries = l.entries ++ record { graph = g; pattern = record { piece = c.piece; seats = c.seats } } ∷ [] };
}

abbrev pub add_cut : Ledger → Graph Code → Cut → Result Entered EnterRefusal
add_cut l g c = cond (within c.pieces (length l.entries + 1)) (Ok (added l g c)) (Err BookFull)

abbrev pub enter : Ledger → List Code → List (Tie Code) → Result Entered EnterRefusal
enter l cs ts =
    cond (can_enter cs ts) (add_cut l (table_graph cs ts) (cut_whole l.pieces (table_graph cs ts))) (Err BadPattern)

-- the arguments of one enter
pub record Entering : Type 0 where
  pub codes : List Code
  pub ties : List (Tie Code)

-- a refused enter changes nothing
abbrev pub after_one : Ledger → Entering → Ledger
after_one l e = elim (enter l e.codes e.ties) [ Ok t ↦ t.ledger | Err r ↦ l ]

abbrev pub after : Ledger → List Entering → Ledger
after l [] = l
after l (e ∷ es) = after (after_one l e) es
