-- A line that is refused is to blame for its fault, and so is the field that the fault names.
use Rattle.std.proofs.Common.{◌≡◌, ℕ, ◌+◌, Bool, cond, eqb, ltb, List, length, is_some, Some, None, Ok, Err, Option, Result, ap, subst}
use Rattle.std.proofs.lemmas.Bool.{cond_both}
use Rattle.graphs.specs.declared.Tie.{Tie}
use Rattle.fields.specs.Split.{split}
use Rattle.faults.specs.declared.FieldTrouble.TheVariants.{LabelCount}
use Rattle.faults.specs.declared.FieldFault.{FieldFault}
use Rattle.faults.specs.declared.LineFault.{LineFault}
use Rattle.faults.specs.declared.LineFault.TheVariants.{TextStops, NoLineFeed, Letter, FieldCount, InField, OwnTie, RepeatedPair, NoRoom}
use Rattle.grammar.specs.declared.records.Counts.{Counts}
use Rattle.grammar.specs.declared.records.Record.{Record}
use Rattle.grammar.specs.declared.records.Record.TheVariants.{Graph, Vertex, Tied, End}
use Rattle.grammar.specs.declared.records.Stage.{Stage}
use Rattle.grammar.specs.declared.records.Stage.TheVariants.{Opening, Vertices, Ties, Closed}
use Rattle.grammar.specs.Labels.{Form, width}
use Rattle.grammar.specs.Reading.{State, and_then, number_in, label_in, only, first_of, has_pair, graph_line, vertex_line, new_tie, tie_in, tie_line, end_line, letter_of, by_letter, by_first}
use Rattle.grammar.specs.Pointing.{FaultOf, ToBlame}
use Rattle.grammar.proofs.Steps.{ok_err, same_err, then_err}
use Rattle.grammar.proofs.FieldBlame.{Troubled, fields, size, number_blame, label_blame, tie_blame, field_two, field_three}

module _ {L : Type 0} (s : State L) (line : List ℕ) where
  -- what a line's fault says of its fields; a line alone tells nothing of the text's end
  abbrev Likely : LineFault → Type 0
  Likely TextStops = ⊥
  Likely NoLineFeed = ⊥
  Likely Letter = Unit {0}
  Likely FieldCount = Unit {0}
  Likely (InField f) = Troubled s line f
  Likely OwnTie = Unit {0}
  Likely RepeatedPair = Unit {0}
  Likely NoRoom = Unit {0}

  -- a result whose fault is likely
  abbrev Fair : Result (Record L) LineFault → Type 0
  Fair q = (e : LineFault) → q ≡ Err e → Likely e

  fair_ok : (r : Record L) → Fair (Ok r)
  fair_ok r e h = absurd (ok_err r e h)

  fair_err : (e : LineFault) → Likely e → Fair (Err e)
  fair_err e l f h = subst Likely (same_err e f h) l

  fair_then : {X : Type 0} (r : Result X FieldFault) (next : X → Result (Record L) LineFault) → ((f : FieldFault) → r ≡ Err f → Troubled s line f)
      → ((x : X) → Fair (next x)) → Fair (and_then InField r next)
  fair_then r next t n e h = then_err Likely InField r next e h t (λ x _ g. n x e g)

  fair_cond : (b : Bool) (x y : Result (Record L) LineFault) → Fair x → Fair y → Fair (cond b x y)
  fair_cond b x y p q = cond_both b x y Fair (λ _. p) (λ _. q)

  graph_fair : (form : Form L) → Fair (graph_line form (fields s line))
  graph_fair form =
      fair_cond (eqb (length (fields s line)) 1) _ _
      (fair_then (number_in 2 (only (width form)) LabelCount (first_of (fields s line))) (λ _. Ok Graph)
      (λ f h. number_blame s line 2 (only (width form)) LabelCount (first_of (fields s line)) (field_two line) (λ n q _. ap is_some q) f h) (λ _. fair_ok Graph))
      (fair_err FieldCount tt)

  vertex_fair : (form : Form L) (room : ℕ) → Fair (vertex_line form room (size s line) (fields s line))
  vertex_fair form room =
      fair_cond (eqb (length (fields s line)) (width form)) _ _
      (fair_then (label_in form 2 (fields s line)) (λ l. cond (ltb (size s line) room) (Ok (Vertex l)) (Err NoRoom))
      (λ f h. label_blame s line form 2 (fields s line) (field_two line) (field_three line) f h)
      (λ l. fair_cond (ltb (size s line) room) _ _ (fair_ok (Vertex l)) (fair_err NoRoom tt)))
      (fair_err FieldCount tt)

  new_fair : (room : ℕ) (t : Tie L) → Fair (new_tie room s.ties t)
  new_fair room t =
      fair_cond (eqb t.from t.to) _ _ (fair_err OwnTie tt)
      (fair_cond (has_pair s.ties t.from t.to) _ _ (fair_err RepeatedPair tt)
      (fair_cond (ltb (length s.ties) room) _ _ (fair_ok (Tied t)) (fair_err NoRoom tt)))

  tie_fair : (form : Form L) (room : ℕ) → Fair (tie_line form room (size s line) s.ties (fields s line))
  tie_fair form room =
      fair_cond (eqb (length (fields s line)) (2 + width form)) _ _
      (fair_then (tie_in form (size s line) (fields s line)) (new_tie room s.ties) (tie_blame s line form) (new_fair room)) (fair_err FieldCount tt)

  end_fair : Fair (end_line (fields s line))
  end_fair = fair_cond (eqb (length (fields s line)) 0) _ _ (fair_ok End) (fair_err FieldCount tt)

  letter_fair : (form : Form L) (room : Counts) (stage : Stage) (letter : ℕ) → Fair (by_letter form room stage (size s line) s.ties letter (fields s line))
  letter_fair form room Opening letter = fair_cond (eqb letter 103) _ _ (graph_fair form) (fair_err Letter tt)
  letter_fair form room Vertices letter =
      fair_cond (eqb letter 110) _ _ (vertex_fair form room.vertices)
      (fair_cond (eqb letter 116) _ _ (tie_fair form room.ties) (fair_cond (eqb letter 101) _ _ end_fair (fair_err Letter tt)))
  letter_fair form room Ties letter =
      fair_cond (eqb letter 116) _ _ (tie_fair form room.ties) (fair_cond (eqb letter 101) _ _ end_fair (fair_err Letter tt))
  letter_fair form room Closed letter = fair_err Letter tt

  first_fair : (form : Form L) (room : Counts) (stage : Stage) (first : Option ℕ) → Fair (by_first form room stage (size s line) s.ties first (fields s line))
  first_fair form room stage None = fair_err Letter tt
  first_fair form room stage (Some letter) = letter_fair form room stage letter

  blame : (form : Form L) (room : Counts) (e : LineFault) → FaultOf form room s line e → Likely e → ToBlame form room s line e
  blame form room TextStops h l = absurd l
  blame form room NoLineFeed h l = absurd l
  blame form room Letter h l = h
  blame form room FieldCount h l = h
  blame form room (InField f) h l = (h, l)
  blame form room OwnTie h l = h
  blame form room RepeatedPair h l = h
  blame form room NoRoom h l = h

  -- a line that is refused
  pub line_blame : (form : Form L) (room : Counts) (e : LineFault) → FaultOf form room s line e → ToBlame form room s line e
  line_blame form room e h = blame form room e h (first_fair form room s.stage (letter_of (first_of (split 9 line))) e h)
