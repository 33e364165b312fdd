-- What a graph is, over labels of one type.
use Rattle.std.specs.Prelude.{◌≡◌, ℕ, ◌<◌, ◌≤◌, true, is_some, None, Option}

-- how many vertices, the label of each, and the label of the tie from one vertex to another. Since a tie is an answer, at most one runs from u to v.
pub record Graph (L : Type 0) : Type 0 where
  pub size : ℕ
  pub label : ℕ → Option L
  pub tie : ℕ → ℕ → Option L

-- each vertex has a label and nothing else has, and a tie runs between two different vertices
pub record Sound {L : Type 0} (g : Graph L) : Type 0 where
  pub labelled : (v : ℕ) → v < g.size → is_some (g.label v) ≡ true
  pub bare : (v : ℕ) → g.size ≤ v → g.label v ≡ None
  pub inside : (u v : ℕ) → is_some (g.tie u v) ≡ true → (u < g.size) × (v < g.size)
  pub apart : (v : ℕ) → g.tie v v ≡ None
