-- What the reader's lists hold after a line is stored.
use Rattle.std.specs.Prelude.{ℕ, ◌+◌, ◌<◌, List, slice_set}
use Rattle.graphs.specs.declared.Tie.{Tie}
use Rattle.grammar.specs.declared.records.Counts.{Counts}
use Rattle.grammar.specs.declared.records.Record.{Record}
use Rattle.grammar.specs.declared.records.Record.TheVariants.{Graph, Vertex, Tied, End}
use Rattle.grammar.specs.declared.records.Stage.{Stage}
use Rattle.grammar.specs.declared.records.Stage.TheVariants.{Vertices, Ties, Closed}

-- the list that the record goes to has a free entry
abbrev pub HasRoom : {L : Type 0} → Record L → Counts → ℕ → ℕ → Type 0
HasRoom Graph c n m = Unit {0}
HasRoom (Vertex l) c n m = c.vertices < n
HasRoom (Tied t) c n m = c.ties < m
HasRoom End c n m = Unit {0}

abbrev pub stage_after : {L : Type 0} → Record L → Stage
stage_after Graph = Vertices
stage_after (Vertex l) = Vertices
stage_after (Tied t) = Ties
stage_after End = Closed

abbrev pub counts_after : {L : Type 0} → Record L → Counts → Counts
counts_after Graph c = c
counts_after (Vertex l) c = record { vertices = c.vertices + 1; ties = c.ties }
counts_after (Tied t) c = record { vertices = c.vertices; ties = c.ties + 1 }
counts_after End c = c

abbrev pub vertices_after : {L : Type 0} → Record L → Counts → List L → List L
vertices_after Graph c ls = ls
vertices_after (Vertex l) c ls = slice_set ls c.vertices l
vertices_after (Tied t) c ls = ls
vertices_after End c ls = ls

abbrev pub ties_after : {L : Type 0} → Record L → Counts → List (Tie L) → List (Tie L)
ties_after Graph c ts = ts
ties_after (Vertex l) c ts = ts
ties_after (Tied t) c ts = slice_set ts c.ties t
ties_after End c ts = ts
