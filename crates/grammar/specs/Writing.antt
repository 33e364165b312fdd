-- How a graph is written as a graph text, and what makes a graph good.
use Rattle.std.specs.Prelude.{◌≡◌, ℕ, ◌<◌, ◌≤◌, true, false, List, [], ◌∷◌, ◌++◌, length, IfSome}
use Rattle.std.specs.List.{flat_map, AllByRecursion}
use Rattle.graphs.specs.declared.Tie.{Tie}
use Rattle.fields.specs.Lines.{line_text}
use Rattle.grammar.specs.declared.records.Counts.{Counts}
use Rattle.grammar.specs.Labels.{Form, inside, width, numbers_of}
use Rattle.grammar.specs.Reading.{has_pair, most_bytes}

abbrev pub vertex_text : {L : Type 0} → Form L → L → List ℕ
vertex_text form l = line_text 110 (numbers_of form l)

abbrev pub tie_text : {L : Type 0} → Form L → Tie L → List ℕ
tie_text form t = line_text 116 (t.from ∷ t.to ∷ numbers_of form t.label)

-- `g` and the count of label fields, an `n` line for each vertex, a `t` line for each tie, and `e`
abbrev pub graph_text : {L : Type 0} → Form L → List L → List (Tie L) → List ℕ
graph_text form ls ts =
    line_text 103 (width form ∷ []) ++ (flat_map (vertex_text form) ls ++ (flat_map (tie_text form) ts ++ line_text 101 []))

-- a label's numbers are those that its fields allow
pub record GoodLabel {L : Type 0} (form : Form L) (l : L) : Type 0 where
  pub first : inside form.first (form.one l) ≡ true
  pub second : IfSome form.second (λ range. inside range (form.two l) ≡ true)

-- a tie runs between two different ones of n vertices
pub record GoodTie {L : Type 0} (form : Form L) (n : ℕ) (t : Tie L) : Type 0 where
  pub from : t.from < n
  pub to : t.to < n
  pub apart : t.from ≡ t.to → ⊥
  pub label : GoodLabel form t.label

-- no two ties of the list run from and to the same vertices
abbrev pub Different : {L : Type 0} → List (Tie L) → Type 0
Different [] = Unit {0}
Different (t ∷ ts) = (has_pair ts t.from t.to ≡ false) × Different ts

-- vertex labels and ties that keep the rules of a graph
pub record GoodGraph {L : Type 0} (form : Form L) (ls : List L) (ts : List (Tie L)) : Type 0 where
  pub labels : AllByRecursion (GoodLabel form) ls
  pub ties : AllByRecursion (GoodTie form (length ls)) ts
  pub different : Different ts

-- the text is the graph text of a good graph that fits the lists
pub record GraphText {L : Type 0} (form : Form L) (room : Counts) (text : List ℕ) (ls : List L) (ts : List (Tie L)) : Type 0 where
  pub written : text ≡ graph_text form ls ts
  pub short : length text ≤ most_bytes
  pub good : GoodGraph form ls ts
  pub vertices : length ls ≤ room.vertices
  pub ties : length ts ≤ room.ties
