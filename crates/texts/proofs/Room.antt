-- A line that is taken has room for what it says.
use Rattle.std.proofs.Common.{◌≡◌, ℕ, Bool, true, cond, eqb, ltb, List, length, Some, None, Ok, Err, Option, Result, subst}
use Rattle.std.proofs.lemmas.Bool.{cond_both, ltb-true}
use Rattle.graphs.specs.declared.Tie.{Tie}
use Rattle.fields.specs.Split.{split}
use Rattle.faults.specs.declared.FieldTrouble.TheVariants.{LabelCount}
use Rattle.faults.specs.declared.LineFault.{LineFault}
use Rattle.faults.specs.declared.LineFault.TheVariants.{InField, FieldCount, Letter, NoRoom, OwnTie, RepeatedPair}
use Rattle.grammar.specs.declared.records.Counts.{Counts}
use Rattle.grammar.specs.declared.records.Record.{Record}
use Rattle.grammar.specs.declared.records.Record.TheVariants.{Graph, Vertex, Tied, End}
use Rattle.grammar.specs.declared.records.Stage.{Stage}
use Rattle.grammar.specs.declared.records.Stage.TheVariants.{Opening, Vertices, Ties, Closed}
use Rattle.grammar.specs.Labels.{Form, width}
use Rattle.grammar.specs.Reading.{and_then, number_in, only, first_of, rest_of, letter_of, label_in, tie_in, has_pair, graph_line, vertex_line, new_tie, tie_line, end_line, by_letter, by_first, record_of}
use Rattle.texts.specs.Storing.{HasRoom}

module _ {L : Type 0} (form : Form L) (room : Counts) (n : ℕ) (ts : List (Tie L)) where
  -- shut, so that antt finds the parts of a `cond` under it
  Roomy : Result (Record L) LineFault → Type 0
  Roomy (Err e) = Unit {0}
  Roomy (Ok r) = HasRoom r (record { vertices = n; ties = length ts }) room.vertices room.ties

  err : (e : LineFault) → Roomy (Err e)
  unfolding Roomy
  err e = tt

  ok_graph : Roomy (Ok Graph)
  unfolding Roomy
  ok_graph = tt

  ok_end : Roomy (Ok End)
  unfolding Roomy
  ok_end = tt

  ok_vertex : (l : L) → ltb n room.vertices ≡ true → Roomy (Ok (Vertex l))
  unfolding Roomy
  ok_vertex l h = ltb-true _ _ h

  ok_tied : (t : Tie L) → ltb (length ts) room.ties ≡ true → Roomy (Ok (Tied t))
  unfolding Roomy
  ok_tied t h = ltb-true _ _ h

  either : (b : Bool) (x y : Result (Record L) LineFault) → (b ≡ true → Roomy x) → Roomy y → Roomy (cond b x y)
  either b x y h k = cond_both b x y Roomy h (λ _. k)

  after : {X E : Type 0} (f : E → LineFault) (r : Result X E) (next : X → Result (Record L) LineFault) → ((x : X) → Roomy (next x)) → Roomy (and_then f r next)
  after f (Ok x) next h = h x
  after f (Err e) next h = err (f e)

  roomy_graph : (fs : List (List ℕ)) → Roomy (graph_line form fs)
  roomy_graph fs = either _ _ _ (λ _. after InField (number_in 2 (only (width form)) LabelCount (first_of fs)) (λ _. Ok Graph) (λ _. ok_graph)) (err FieldCount)

  roomy_vertex : (fs : List (List ℕ)) → Roomy (vertex_line form room.vertices n fs)
  roomy_vertex fs =
      either _ _ _
      (λ _. after InField (label_in form 2 fs) _ (λ l. either (ltb n room.vertices) (Ok (Vertex l)) (Err NoRoom) (ok_vertex l) (err NoRoom)))
      (err FieldCount)

  roomy_new : (t : Tie L) → Roomy (new_tie room.ties ts t)
  roomy_new t =
      either (eqb t.from t.to) _ _ (λ _. err OwnTie)
      (either (has_pair ts t.from t.to) _ _ (λ _. err RepeatedPair) (either (ltb (length ts) room.ties) (Ok (Tied t)) (Err NoRoom) (ok_tied t) (err NoRoom)))

  roomy_tie : (fs : List (List ℕ)) → Roomy (tie_line form room.ties n ts fs)
  roomy_tie fs = either _ _ _ (λ _. after InField (tie_in form n fs) (new_tie room.ties ts) roomy_new) (err FieldCount)

  roomy_end : (fs : List (List ℕ)) → Roomy (end_line fs)
  roomy_end fs = either (eqb (length fs) 0) (Ok End) (Err FieldCount) (λ _. ok_end) (err FieldCount)

  roomy_letter : (stage : Stage) (letter : ℕ) (fs : List (List ℕ)) → Roomy (by_letter form room stage n ts letter fs)
  roomy_letter Opening letter fs = either _ _ _ (λ _. roomy_graph fs) (err Letter)
  roomy_letter Vertices letter fs =
      either (eqb letter 110) _ _ (λ _. roomy_vertex fs) (either (eqb letter 116) _ _ (λ _. roomy_tie fs) (either (eqb letter 101) _ _ (λ _. roomy_end fs) (err Letter)))
  roomy_letter Ties letter fs = either (eqb letter 116) _ _ (λ _. roomy_tie fs) (either (eqb letter 101) _ _ (λ _. roomy_end fs) (err Letter))
  roomy_letter Closed letter fs = err Letter

  roomy_first : (stage : Stage) (first : Option ℕ) (fs : List (List ℕ)) → Roomy (by_first form room stage n ts first fs)
  roomy_first stage None fs = err Letter
  roomy_first stage (Some letter) fs = roomy_letter stage letter fs

  pub has_room : (stage : Stage) (line : List ℕ) (r : Record L) → record_of form room stage n ts line ≡ Ok r
      → HasRoom r (record { vertices = n; ties = length ts }) room.vertices room.ties
  unfolding Roomy
  has_room stage line r e = subst Roomy e (roomy_first stage (letter_of (first_of (split 9 line))) (rest_of (split 9 line)))
