-- The part of a graph that some picked vertices make.
use Rattle.std.specs.Prelude.{◌≡◌, ℕ, ◌<◌, cond, List, map, length, None, filter, Option, nat_lt, slice_index}
use Rattle.graphs.specs.Graphs.{Graph}

-- the first n numbers strictly ascend
abbrev pub Ascends : List ℕ → ℕ → Type 0
Ascends xs n = (i j : ℕ) → i < j → j < n → slice_index xs i < slice_index xs j

abbrev pub Rising : List ℕ → Type 0
Rising ps = Ascends ps (length ps)

-- the numbers of the list that are below n
abbrev pub below : ℕ → List ℕ → List ℕ
below n = filter (λ v. nat_lt v n)

-- what an answer is at pick i, none where there is no such pick
abbrev pub picked : {A : Type 0} → List ℕ → ℕ → (ℕ → Option A) → Option A
picked ps i answer = cond (nat_lt i (length ps)) (answer (slice_index ps i)) None

-- as many vertices as there are picks that the graph has. Vertex i is pick i, with its label and its ties.
abbrev pub part_graph : {L : Type 0} → Graph L → List ℕ → Graph L
part_graph g ps = record {
  size = length (below g.size ps);
  label = λ i. picked ps i g.label;
  tie = λ i j. picked ps i (λ u. picked ps j (λ v. g.tie u v));
}

-- picks among the picks ps, as numbers of the graph below. Those that ps lacks fall away.
abbrev pub through : List ℕ → List ℕ → List ℕ
through ps qs = map (λ q. slice_index ps q) (below (length ps) qs)

-- what the part by picks among the picks of a part is: a part of the graph below, by picks that ascend
pub record PartOfPart {L : Type 0} (g : Graph L) (ps qs : List ℕ) : Type 0 where
  pub same : part_graph (part_graph g ps) qs ≡ part_graph g (through ps qs)
  pub rising : Rising (through ps qs)
