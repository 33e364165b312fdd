-- A graph text of a good graph that fits is taken, and read as just that graph.
use Rattle.std.proofs.Common.{◌≡◌, ℕ, ◌+◌, ◌^◌, ◌≤◌, ltb, List, [], ◌∷◌, ◌++◌, length, Ok, Err, Result, sym, ap, ◌∙◌, subst, arith}
use Rattle.std.specs.List.{flat_map, AllByRecursion}
use Rattle.std.proofs.lemmas.List.{append_assoc, append-nil, length-append, length_push}
use Rattle.std.proofs.lemmas.Bool.{cond-false, le-ltb}
use Rattle.graphs.specs.declared.Tie.{Tie}
use Rattle.fields.specs.Lines.{line_text}
use Rattle.fields.specs.Split.{split, ended}
use Rattle.faults.specs.declared.LineFault.{LineFault}
use Rattle.faults.specs.declared.TextFault.TheVariants.{InLine}
use Rattle.grammar.specs.declared.records.Counts.{Counts}
use Rattle.grammar.specs.declared.records.Record.{Record}
use Rattle.grammar.specs.declared.records.Record.TheVariants.{Graph, Vertex, Tied, End}
use Rattle.grammar.specs.declared.records.Stage.{Stage}
use Rattle.grammar.specs.declared.records.Stage.TheVariants.{Vertices, Ties, Closed}
use Rattle.grammar.specs.Labels.{Form, Faithful, width}
use Rattle.grammar.specs.Reading.{State, Outcome, start, added, read_on, reading, most_bytes}
use Rattle.grammar.specs.Writing.{vertex_text, tie_text, graph_text, GoodLabel, GoodTie, Different, GraphText}
use Rattle.fields.proofs.Splits.{some_piece}
use Rattle.grammar.proofs.LineWritten.{line_in, first_line}
use Rattle.grammar.proofs.Pairs.{different_before}
use Rattle.grammar.proofs.Sayings.{text_for, InGraph, Allowed}

abbrev at : {L : Type 0} → Stage → List L → List (Tie L) → State L
at stage ls ts = record { stage = stage; labels = ls; ties = ts }

module _ {L : Type 0} (form : Form L) (faith : Faithful form) (room : Counts) (number : ℕ) where
  abbrev on : State L → ℕ → List ℕ → Outcome L
  on s k text = read_on form room number s k (split 10 text)

  -- the line of a record is read before the rest
  step : (s : State L) (k : ℕ) (r : Record L) (rest : List ℕ) → length s.labels ≤ 10 ^ 9 → Allowed form room s.stage (length s.labels) s.ties r
      → on s k (text_for form r ++ rest) ≡ on (added s r) (k + 1) rest
  step s k r rest w a =
      ap (read_on form room number s k) (first_line form faith room s.stage (length s.labels) s.ties r rest w a)
      ∙ cond-false (ended (split 10 rest)) _ _ (some_piece 10 rest)
      ∙ ap (λ (q : Result (Record L) LineFault). elim q [
        | Ok r ↦ read_on form room number (added s r) (k + 1) (split 10 rest)
        | Err e ↦ record { state = s; answer = Err (InLine (record { text = number; line = k; fault = e })) }
      ]) (line_in form faith room s.stage (length s.labels) s.ties r w a)

  vertices_on : (ls before : List L) (k : ℕ) (rest : List ℕ) → AllByRecursion (GoodLabel form) ls → length before + length ls ≤ room.vertices → length before + length ls ≤ 10 ^ 9
      → (j : ℕ) × (on (at Vertices before []) k (flat_map (vertex_text form) ls ++ rest) ≡ on (at Vertices (before ++ ls) []) j rest)
  vertices_on [] before k rest g h w = (k, ap (λ xs. on (at Vertices xs []) k rest) (sym (append-nil before)))
  vertices_on (l ∷ ls) before k rest g h w =
      let more = length_push before l in
      let p = vertices_on ls (before ++ l ∷ []) (k + 1) rest g.1 (omega arith) (omega arith) in (
        p.0,
        ap (λ bs. on (at Vertices before []) k bs) (append_assoc (vertex_text form l) (flat_map (vertex_text form) ls) rest)
            ∙ step (at Vertices before []) k (Vertex l) (flat_map (vertex_text form) ls ++ rest) (omega arith) (tt, g.0, omega arith)
            ∙ p.1
            ∙ ap (λ xs. on (at Vertices xs []) p.0 rest) (append_assoc before (l ∷ []) ls),
      )

  -- the text from a tie on is read, up to its ties' end
  abbrev TiesOn : Stage → List L → List (Tie L) → List (Tie L) → ℕ → List ℕ → Type 0
  TiesOn stage ls before ts k rest =
      (last : Stage) × (j : ℕ) × InGraph last × (on (at stage ls before) k (flat_map (tie_text form) ts ++ rest) ≡ on (at last ls (before ++ ts)) j rest)

  tie_on : (t : Tie L) (ts before : List (Tie L)) (stage : Stage) (ls : List L) (k : ℕ) (rest : List ℕ) → length ls ≤ 10 ^ 9
      → Allowed form room stage (length ls) before (Tied t) → TiesOn Ties ls (before ++ t ∷ []) ts (k + 1) rest → TiesOn stage ls before (t ∷ ts) k rest
  tie_on t ts before stage ls k rest w a (last, j, i, e) = (
    last,
    j,
    i,
    ap (λ bs. on (at stage ls before) k bs) (append_assoc (tie_text form t) (flat_map (tie_text form) ts) rest)
        ∙ step (at stage ls before) k (Tied t) (flat_map (tie_text form) ts ++ rest) w a
        ∙ e
        ∙ ap (λ xs. on (at last ls xs) j rest) (append_assoc before (t ∷ []) ts),
  )

  ties_on : (ts before : List (Tie L)) (stage : Stage) (ls : List L) (k : ℕ) (rest : List ℕ) → InGraph stage → AllByRecursion (GoodTie form (length ls)) ts
      → Different (before ++ ts) → length before + length ts ≤ room.ties → length ls ≤ 10 ^ 9 → TiesOn stage ls before ts k rest
  ties_on [] before stage ls k rest i g d h w = (stage, k, i, ap (λ xs. on (at stage ls xs) k rest) (sym (append-nil before)))
  ties_on (t ∷ ts) before stage ls k rest i g d h w =
      let more = length_push before t in
      let d' : Different ((before ++ t ∷ []) ++ ts) = subst Different (sym (append_assoc before (t ∷ []) ts)) d in
      tie_on t ts before stage ls k rest w (i, g.0, different_before before t ts d, omega arith)
      (ties_on ts (before ++ t ∷ []) Ties ls (k + 1) rest tt g.1 d' (omega arith) w)

  end_on : (stage : Stage) (ls : List L) (ts : List (Tie L)) (k : ℕ) → InGraph stage → length ls ≤ 10 ^ 9
      → on (at stage ls ts) k (line_text 101 []) ≡ record { state = at Closed ls ts; answer = Ok (record { vertices = length ls; ties = length ts }) }
  end_on stage ls ts k i w = step (at stage ls ts) k End [] w i

  graph_on : (ls : List L) (ts : List (Tie L)) → AllByRecursion (GoodLabel form) ls → AllByRecursion (GoodTie form (length ls)) ts → Different ts
      → length ls ≤ room.vertices → length ts ≤ room.ties → length ls ≤ 10 ^ 9
      → on start 1 (graph_text form ls ts) ≡ record { state = at Closed ls ts; answer = Ok (record { vertices = length ls; ties = length ts }) }
  graph_on ls ts gl gt d hl ht w =
      let rest = flat_map (tie_text form) ts ++ line_text 101 [] in
      let v = vertices_on ls [] 2 rest gl (omega arith) (omega arith) in
      let t = ties_on ts [] Vertices ls v.0 (line_text 101 []) tt gt d (omega arith) w in
      step start 1 Graph (flat_map (vertex_text form) ls ++ rest) (omega arith) tt ∙ v.1 ∙ t.3 ∙ end_on t.0 ls ts t.1 t.2 w

many_vertices : {L : Type 0} (form : Form L) (ls : List L) → length ls ≤ length (flat_map (vertex_text form) ls)
many_vertices form [] = omega arith
many_vertices form (l ∷ ls) = omega (arith, length-append (vertex_text form l) (flat_map (vertex_text form) ls), many_vertices form ls)

-- a text has a byte for each vertex
long_text : {L : Type 0} (form : Form L) (ls : List L) (ts : List (Tie L)) → length ls ≤ length (graph_text form ls ts)
long_text form ls ts =
    let rest : List ℕ = flat_map (tie_text form) ts ++ line_text 101 [] in
    omega (arith, many_vertices form ls, length-append (line_text 103 (width form ∷ [])) (flat_map (vertex_text form) ls ++ rest), length-append (flat_map (vertex_text form) ls) rest)

whole : {L : Type 0} (form : Form L) → Faithful form → (room : Counts) (number : ℕ) (text : List ℕ) (ls : List L) (ts : List (Tie L)) → GraphText form room text ls ts
    → reading form room number text ≡ record { state = at Closed ls ts; answer = Ok (record { vertices = length ls; ties = length ts }) }
whole form faith room number text ls ts g =
    let few : length ls ≤ 10 ^ 9 = omega (arith, long_text form ls ts, ap length g.written, g.short) in
    cond-false (ltb most_bytes (length text)) _ _ (le-ltb most_bytes (length text) g.short)
    ∙ ap (λ bs. read_on form room number start 1 (split 10 bs)) g.written
    ∙ graph_on form faith room number ls ts g.good.labels g.good.ties g.good.different g.vertices g.ties few

pub taken : {L : Type 0} (form : Form L) → Faithful form → (room : Counts) (number : ℕ) (text : List ℕ) (ls : List L) (ts : List (Tie L)) → GraphText form room text ls ts
    → ((reading form room number text).answer ≡ Ok (record { vertices = length ls; ties = length ts })) × ((reading form room number text).state.labels ≡ ls) × ((reading form room number text).state.ties ≡ ts)
taken form faith room number text ls ts g =
    let e = whole form faith room number text ls ts g in (ap (λ o. o.answer) e, ap (λ o. o.state.labels) e, ap (λ o. o.state.ties) e)
