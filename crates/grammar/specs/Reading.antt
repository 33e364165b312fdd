-- What a graph text reads as: the labels and ties of its lines up to the first fault, and the answer.
use Rattle.std.specs.Prelude.{ℕ, ◌+◌, Bool, true, false, cond, ◌&&◌, ◌||◌, List, [], ◌∷◌, ◌++◌, length, Some, None, Ok, Err, Option, Result, ◌==◌, nat_lt}
use Rattle.graphs.specs.declared.Tie.{Tie}
use Rattle.fields.specs.Numbers.{number_of}
use Rattle.fields.specs.Split.{split, ended}
use Rattle.faults.specs.declared.FieldTrouble.{FieldTrouble}
use Rattle.faults.specs.declared.FieldTrouble.TheVariants.{NoNumber, OutOfRange, LabelCount, MissingVertex}
use Rattle.faults.specs.declared.FieldFault.{FieldFault}
use Rattle.faults.specs.declared.LineFault.{LineFault}
use Rattle.faults.specs.declared.LineFault.TheVariants.{TextStops, NoLineFeed, Letter, FieldCount, InField, OwnTie, RepeatedPair, NoRoom}
use Rattle.faults.specs.declared.TextFault.{TextFault}
use Rattle.faults.specs.declared.TextFault.TheVariants.{TooLong, InLine}
use Rattle.grammar.specs.declared.records.Counts.{Counts}
use Rattle.grammar.specs.declared.records.Range.{Range}
use Rattle.grammar.specs.declared.records.Record.{Record}
use Rattle.grammar.specs.declared.records.Record.TheVariants.{Graph, Vertex, Tied, End}
use Rattle.grammar.specs.declared.records.Stage.{Stage}
use Rattle.grammar.specs.declared.records.Stage.TheVariants.{Opening, Vertices, Ties, Closed}
use Rattle.grammar.specs.Labels.{Form, inside, width}

-- the most bytes that a text may have
abbrev pub most_bytes : ℕ
most_bytes = 1000000

-- one step after another, with the fault of the first that has one
abbrev pub and_then : {X Y E F : Type 0} → (E → F) → Result X E → (X → Result Y F) → Result Y F
and_then f (Ok x) next = next x
and_then f (Err e) next = Err (f e)

-- the first of some fields, empty where there is none, and the others
abbrev pub first_of : List (List ℕ) → List ℕ
first_of [] = []
first_of (f ∷ fs) = f

abbrev pub rest_of : List (List ℕ) → List (List ℕ)
rest_of [] = []
rest_of (f ∷ fs) = fs

abbrev pub judged : ℕ → Range → FieldTrouble → Option ℕ → Result ℕ FieldFault
judged k range trouble None = Err (record { field = k; trouble = NoNumber })
judged k range trouble (Some n) = cond (inside range n) (Ok n) (Err (record { field = k; trouble = trouble }))

-- the number in field k of a line, within a range
abbrev pub number_in : ℕ → Range → FieldTrouble → List ℕ → Result ℕ FieldFault
number_in k range trouble bytes = judged k range trouble (number_of bytes)

-- the label in the fields from k on
abbrev pub second_in : {L : Type 0} → Form L → Option Range → ℕ → ℕ → List (List ℕ) → Result L FieldFault
second_in form None k a fs = Ok (form.make a 0)
second_in form (Some range) k a fs = and_then (λ e. e) (number_in (k + 1) range OutOfRange (first_of fs)) (λ b. Ok (form.make a b))

abbrev pub label_in : {L : Type 0} → Form L → ℕ → List (List ℕ) → Result L FieldFault
label_in form k fs = and_then (λ e. e) (number_in k form.first OutOfRange (first_of fs)) (λ a. second_in form form.second k a (rest_of fs))

abbrev pub only : ℕ → Range
only n = record { start = n; end = n + 1 }

abbrev pub below : ℕ → Range
below n = record { start = 0; end = n }

-- whether a tie of the list runs from one vertex to another
abbrev pub has_pair : {L : Type 0} → List (Tie L) → ℕ → ℕ → Bool
has_pair [] u v = false
has_pair (t ∷ ts) u v = (t.from == u && t.to == v) || has_pair ts u v

-- what the lines of each letter say, by the fields after the letter. n vertices and the ties ts came before.
abbrev pub graph_line : {L : Type 0} → Form L → List (List ℕ) → Result (Record L) LineFault
graph_line form fs =
    cond (length fs == 1)
    (and_then InField (number_in 2 (only (width form)) LabelCount (first_of fs)) (λ _. Ok Graph))
    (Err FieldCount)

abbrev pub vertex_line : {L : Type 0} → Form L → ℕ → ℕ → List (List ℕ) → Result (Record L) LineFault
vertex_line form room n fs =
    cond (length fs == width form)
    (and_then InField (label_in form 2 fs) (λ l. cond (nat_lt n room) (Ok (Vertex l)) (Err NoRoom)))
    (Err FieldCount)

-- a tie whose fields are good
abbrev pub new_tie : {L : Type 0} → ℕ → List (Tie L) → Tie L → Result (Record L) LineFault
new_tie room ts t =
    cond (t.from == t.to) (Err OwnTie)
    (cond (has_pair ts t.from t.to) (Err RepeatedPair)
    (cond (nat_lt (length ts) room) (Ok (Tied t)) (Err NoRoom)))

abbrev pub tie_in : {L : Type 0} → Form L → ℕ → List (List ℕ) → Result (Tie L) FieldFault
tie_in form n fs =
    and_then (λ e. e) (number_in 2 (below n) MissingVertex (first_of fs)) (λ u.
    and_then (λ e. e) (number_in 3 (below n) MissingVertex (first_of (rest_of fs))) (λ v.
    and_then (λ e. e) (label_in form 4 (rest_of (rest_of fs))) (λ l. Ok (record { from = u; to = v; label = l }))))

abbrev pub tie_line : {L : Type 0} → Form L → ℕ → ℕ → List (Tie L) → List (List ℕ) → Result (Record L) LineFault
tie_line form room n ts fs =
    cond (length fs == 2 + width form) (and_then InField (tie_in form n fs) (new_tie room ts)) (Err FieldCount)

abbrev pub end_line : {L : Type 0} → List (List ℕ) → Result (Record L) LineFault
end_line fs = cond (length fs == 0) (Ok End) (Err FieldCount)

-- the letter that is a field; none where the field is not one byte
abbrev pub letter_of : List ℕ → Option ℕ
letter_of [] = None
letter_of (b ∷ []) = Some b
letter_of (b ∷ c ∷ bs) = None

-- what a line says by its letter: 103 is `g`, 110 `n`, 116 `t`, 101 `e`. All `n` lines stand before the `t` lines.
abbrev pub by_letter : {L : Type 0} → Form L → Counts → Stage → ℕ → List (Tie L) → ℕ → List (List ℕ) → Result (Record L) LineFault
by_letter form room Opening n ts letter fs = cond (letter == 103) (graph_line form fs) (Err Letter)
by_letter form room Vertices n ts letter fs =
    cond (letter == 110) (vertex_line form room.vertices n fs)
    (cond (letter == 116) (tie_line form room.ties n ts fs) (cond (letter == 101) (end_line fs) (Err Letter)))
by_letter form room Ties n ts letter fs =
    cond (letter == 116) (tie_line form room.ties n ts fs) (cond (letter == 101) (end_line fs) (Err Letter))
by_letter form room Closed n ts letter fs = Err Letter

-- a line without a letter is refused as one with a wrong letter
abbrev pub by_first : {L : Type 0} → Form L → Counts → Stage → ℕ → List (Tie L) → Option ℕ → List (List ℕ) → Result (Record L) LineFault
by_first form room stage n ts None fs = Err Letter
by_first form room stage n ts (Some letter) fs = by_letter form room stage n ts letter fs

abbrev pub record_of : {L : Type 0} → Form L → Counts → Stage → ℕ → List (Tie L) → List ℕ → Result (Record L) LineFault
record_of form room stage n ts line = by_first form room stage n ts (letter_of (first_of (split 9 line))) (rest_of (split 9 line))

-- what the lines so far have said
pub record State (L : Type 0) : Type 0 where
  pub stage : Stage
  pub labels : List L
  pub ties : List (Tie L)

abbrev pub start : {L : Type 0} → State L
start = record { stage = Opening; labels = []; ties = [] }

abbrev pub added : {L : Type 0} → State L → Record L → State L
added s Graph = record { stage = Vertices; labels = s.labels; ties = s.ties }
added s (Vertex l) = record { stage = Vertices; labels = s.labels ++ l ∷ []; ties = s.ties }
added s (Tied t) = record { stage = Ties; labels = s.labels; ties = s.ties ++ t ∷ [] }
added s End = record { stage = Closed; labels = s.labels; ties = s.ties }

-- what a text reads as: what its lines have said before the first fault, and the reader's answer
pub record Outcome (L : Type 0) : Type 0 where
  pub state : State L
  pub answer : Result Counts TextFault

abbrev pub is_closed : Stage → Bool
is_closed Opening = false
is_closed Vertices = false
is_closed Ties = false
is_closed Closed = true

abbrev pub is_empty : List ℕ → Bool
is_empty [] = true
is_empty (b ∷ bs) = false

abbrev pub counted : {L : Type 0} → State L → Counts
counted s = record { vertices = length s.labels; ties = length s.ties }

-- what is left after the last line feed has to be nothing, after an `e` line
abbrev pub closing : Stage → Counts → ℕ → ℕ → List ℕ → Result Counts TextFault
closing stage counts text k rest =
    cond (is_empty rest)
    (cond (is_closed stage) (Ok counts) (Err (InLine (record { text = text; line = k; fault = TextStops }))))
    (Err (InLine (record { text = text; line = k; fault = NoLineFeed })))

-- the lines from line k on, in what the earlier ones have said; the last of them has no line feed
abbrev pub read_on : {L : Type 0} → Form L → Counts → ℕ → State L → ℕ → List (List ℕ) → Outcome L
read_on form room text s k [] = record { state = s; answer = Err (InLine (record { text = text; line = k; fault = TextStops })) }
read_on form room text s k (line ∷ lines) =
    cond (ended lines)
    (record { state = s; answer = closing s.stage (counted s) text k line })
    (elim (record_of form room s.stage (length s.labels) s.ties line) [
      | Ok r ↦ read_on form room text (added s r) (k + 1) lines
      | Err e ↦ record { state = s; answer = Err (InLine (record { text = text; line = k; fault = e })) }
    ])

-- a text of a number, with room for some vertices and ties
abbrev pub reading : {L : Type 0} → Form L → Counts → ℕ → List ℕ → Outcome L
reading form room number text =
    cond (nat_lt most_bytes (length text))
    (record { state = start; answer = Err (TooLong number) })
    (read_on form room number start 1 (split 10 text))
