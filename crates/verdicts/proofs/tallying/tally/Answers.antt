use Rattle.std.proofs.Common.{◌≡◌, ℕ, ◌+◌, ◌<◌, ◌≤◌, List, length, get_or, take, set, sym, subst, arith}
use Rattle.std.proofs.lemmas.List.{get_or_default}
use Rattle.graphs.specs.declared.Pay.{Pay}
use Rattle.verdicts.specs.Tallying.{kind_count}
use Rattle.verdicts.proofs.Tallies.{counted, passed, small}
use Rattle.verdicts.proofs.tallying.tally.Goals as goal
use Rattle.verdicts.proofs.tallying.tally.Goals.{then-kind-counts, else-kind-counts}

abbrev item : List Pay → ℕ → Pay
item vs i = get_or vs i (record { kind = 0; pence = 0 })

read : (vs : List Pay) (i : ℕ) → i < length vs → item vs i ≡ get_or vs i (item vs i)
read vs i h = get_or_default vs i (record { kind = 0; pence = 0 }) (item vs i) h

pub overflow_add-counts : goal.overflow_add-counts
overflow_add-counts c =
    omega (
      arith,
      small c.loop-vertex.counts c.args.vertices.now c.loop-vertex.vertex-index (item c.args.vertices.now c.loop-vertex.vertex-index) (omega arith)
          (read c.args.vertices.now c.loop-vertex.vertex-index (omega arith)) c.loop-vertex.invariant (item c.args.vertices.now c.loop-vertex.vertex-index).kind c.if-kind-counts.true,
    )

turn : (cs ds : List ℕ) (vs : List Pay) (i : ℕ) → i < length vs → ((k : ℕ) → k < length cs → get_or cs k 0 ≡ kind_count k (take i vs))
    → ds ≡ cs → length cs ≤ (item vs i).kind → (k : ℕ) → k < length ds → get_or ds k 0 ≡ kind_count k (take (i + 1) vs)
turn cs ds vs i h inv e l = let P : List ℕ → Type 0 = λ xs. (k : ℕ) → k < length xs → get_or xs k 0 ≡ kind_count k (take (i + 1) vs) in
    subst P (sym e) (passed cs vs i (item vs i) h (read vs i h) inv l)

count : (cs ds : List ℕ) (vs : List Pay) (i : ℕ) → i < length vs → ((k : ℕ) → k < length cs → get_or cs k 0 ≡ kind_count k (take i vs))
    → ds ≡ set cs (item vs i).kind (get_or cs (item vs i).kind 0 + 1) → (item vs i).kind < length cs → (k : ℕ) → k < length ds → get_or ds k 0 ≡ kind_count k (take (i + 1) vs)
count cs ds vs i h inv e l = let P : List ℕ → Type 0 = λ xs. (k : ℕ) → k < length xs → get_or xs k 0 ≡ kind_count k (take (i + 1) vs) in
    subst P (sym e) (counted cs vs i (item vs i) h (read vs i h) inv l)

pub loop-vertex-preserved : goal.loop-vertex-preserved
loop-vertex-preserved c =
    elim c.if-kind-counts.branch [
      | then-kind-counts w ↦ count c.loop-vertex.counts c.if-kind-counts.counts c.args.vertices.now c.loop-vertex.vertex-index (omega arith) c.loop-vertex.invariant w.counts-is w.if-kind-counts.true
      | else-kind-counts w ↦ turn c.loop-vertex.counts c.if-kind-counts.counts c.args.vertices.now c.loop-vertex.vertex-index (omega arith) c.loop-vertex.invariant w.counts-is w.if-kind-counts.false
    ]
