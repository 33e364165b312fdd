-- The line that writes each record, and when a reader allows the record.
use Rattle.std.proofs.Common.{◌≡◌, ℕ, ◌<◌, false, List, [], ◌∷◌, length}
use Rattle.graphs.specs.declared.Tie.{Tie}
use Rattle.fields.specs.Lines.{numbers_text, line_text}
use Rattle.grammar.specs.declared.records.Counts.{Counts}
use Rattle.grammar.specs.declared.records.Record.{Record}
use Rattle.grammar.specs.declared.records.Record.TheVariants.{Graph, Vertex, Tied, End}
use Rattle.grammar.specs.declared.records.Stage.{Stage}
use Rattle.grammar.specs.declared.records.Stage.TheVariants.{Opening, Vertices, Ties, Closed}
use Rattle.grammar.specs.Labels.{Form, width, numbers_of}
use Rattle.grammar.specs.Reading.{has_pair}
use Rattle.grammar.specs.Writing.{GoodLabel, GoodTie}

abbrev pub letter_for : {L : Type 0} → Record L → ℕ
letter_for Graph = 103
letter_for (Vertex l) = 110
letter_for (Tied t) = 116
letter_for End = 101

abbrev pub numbers_for : {L : Type 0} → Form L → Record L → List ℕ
numbers_for form Graph = width form ∷ []
numbers_for form (Vertex l) = numbers_of form l
numbers_for form (Tied t) = t.from ∷ t.to ∷ numbers_of form t.label
numbers_for form End = []

-- the record's line, without its line feed and with it
abbrev pub line_for : {L : Type 0} → Form L → Record L → List ℕ
line_for form r = letter_for r ∷ numbers_text (numbers_for form r)

abbrev pub text_for : {L : Type 0} → Form L → Record L → List ℕ
text_for form r = line_text (letter_for r) (numbers_for form r)

-- the stages at which a line of each letter may stand
abbrev pub AtHead : Stage → Type 0
AtHead Opening = Unit {0}
AtHead Vertices = ⊥
AtHead Ties = ⊥
AtHead Closed = ⊥

abbrev pub AtVertices : Stage → Type 0
AtVertices Opening = ⊥
AtVertices Vertices = Unit {0}
AtVertices Ties = ⊥
AtVertices Closed = ⊥

abbrev pub InGraph : Stage → Type 0
InGraph Opening = ⊥
InGraph Vertices = Unit {0}
InGraph Ties = Unit {0}
InGraph Closed = ⊥

-- what a record has to keep after n vertices and the ties ts
abbrev pub Allowed : {L : Type 0} → Form L → Counts → Stage → ℕ → List (Tie L) → Record L → Type 0
Allowed form room stage n ts Graph = AtHead stage
Allowed form room stage n ts (Vertex l) = AtVertices stage × GoodLabel form l × (n < room.vertices)
Allowed form room stage n ts (Tied t) = InGraph stage × GoodTie form n t × (has_pair ts t.from t.to ≡ false) × (length ts < room.ties)
Allowed form room stage n ts End = InGraph stage
