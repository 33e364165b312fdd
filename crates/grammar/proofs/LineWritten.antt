-- The line of a record that is allowed is taken, for that record.
use Rattle.std.proofs.Common.{◌≡◌, ℕ, ◌+◌, ◌^◌, ◌<◌, ◌≤◌, true, false, cond, eqb, ltb, List, [], ◌∷◌, ◌++◌, map, length, Some, None, Ok, Err, Option, Result, refl, ap, ◌∙◌, arith}
use Rattle.std.specs.List.{AllByRecursion}
use Rattle.std.proofs.lemmas.Bool.{cond-true, cond-false, and_from, eq-eqb, ne_eqb, le-leb, lt-ltb}
use Rattle.graphs.specs.declared.Tie.{Tie}
use Rattle.fields.specs.Numbers.{numeral}
use Rattle.fields.specs.Split.{split}
use Rattle.faults.specs.declared.FieldTrouble.TheVariants.{LabelCount, MissingVertex}
use Rattle.faults.specs.declared.FieldFault.{FieldFault}
use Rattle.faults.specs.declared.LineFault.TheVariants.{InField, NoRoom}
use Rattle.grammar.specs.declared.records.Counts.{Counts}
use Rattle.grammar.specs.declared.records.Range.{Range}
use Rattle.grammar.specs.declared.records.Record.{Record}
use Rattle.grammar.specs.declared.records.Record.TheVariants.{Graph, Vertex, Tied, End}
use Rattle.grammar.specs.declared.records.Stage.{Stage}
use Rattle.grammar.specs.declared.records.Stage.TheVariants.{Opening, Vertices, Ties, Closed}
use Rattle.grammar.specs.Labels.{Form, Faithful, inside, width, numbers_of}
use Rattle.grammar.specs.Reading.{and_then, number_in, label_in, only, below, first_of, rest_of, has_pair, graph_line, vertex_line, new_tie, tie_in, tie_line, letter_of, by_letter, by_first, record_of}
use Rattle.grammar.specs.Writing.{GoodLabel, GoodTie}
use Rattle.grammar.proofs.Numerals.{Small, line_split, text_split}
use Rattle.grammar.proofs.LabelLaws.{number_in_lem, label_in_lem, label_small, label_width}
use Rattle.grammar.proofs.Sayings.{letter_for, numbers_for, line_for, text_for, Allowed}

width_small : (o : Option Range) → Small (elim o [ None ↦ 1 | Some r ↦ 2 ])
width_small None = omega arith
width_small (Some r) = omega arith

only_in : (w : ℕ) → inside (only w) w ≡ true
only_in w = and_from _ _ (le-leb w w (omega arith)) (lt-ltb w (w + 1) (omega arith))

below_in : (n u : ℕ) → u < n → inside (below n) u ≡ true
below_in n u h = and_from _ _ (le-leb 0 u (omega arith)) (lt-ltb u n h)

module _ {L : Type 0} (form : Form L) where
  -- the numbers of a record that is allowed have at most nine digits
  pub record_small : Faithful form → (room : Counts) (stage : Stage) (n : ℕ) (ts : List (Tie L)) (r : Record L) → n ≤ 10 ^ 9 → Allowed form room stage n ts r
      → AllByRecursion Small (numbers_for form r)
  record_small faith room stage n ts Graph w a = (width_small form.second, tt)
  record_small faith room stage n ts (Vertex l) w a = label_small form faith l a.1
  record_small faith room stage n ts (Tied t) w a =
      let g = a.1 in (omega (arith, g.from), (omega (arith, g.to), label_small form faith t.label g.label))
  record_small faith room stage n ts End w a = tt

  graph_in : graph_line form (numeral (width form) ∷ []) ≡ Ok Graph
  graph_in = ap (λ q. and_then InField q (λ _. Ok Graph)) (number_in_lem 2 (only (width form)) LabelCount (width form) (width_small form.second) (only_in (width form)))

  vertex_in : Faithful form → (room n : ℕ) (l : L) → GoodLabel form l → n < room → vertex_line form room n (map numeral (numbers_of form l)) ≡ Ok (Vertex l)
  vertex_in faith room n l g h =
      cond-true (eqb (length (map numeral (numbers_of form l))) (width form)) _ _ (eq-eqb _ _ (label_width form l))
      ∙ ap (λ q. and_then InField q (λ l. cond (ltb n room) (Ok (Vertex l)) (Err NoRoom))) (label_in_lem form faith 2 l g)
      ∙ cond-true (ltb n room) _ _ (lt-ltb n room h)

  new_in : (room n : ℕ) (ts : List (Tie L)) (t : Tie L) → GoodTie form n t → has_pair ts t.from t.to ≡ false → length ts < room → new_tie room ts t ≡ Ok (Tied t)
  new_in room n ts t g d h =
      cond-false (eqb t.from t.to) _ _ (ne_eqb _ _ g.apart) ∙ cond-false (has_pair ts t.from t.to) _ _ d
      ∙ cond-true (ltb (length ts) room) _ _ (lt-ltb _ _ h)

  tie_in_lem : Faithful form → (n : ℕ) (t : Tie L) → n ≤ 10 ^ 9 → GoodTie form n t → tie_in form n (map numeral (numbers_for form (Tied t))) ≡ Ok t
  tie_in_lem faith n t w g =
      let last : ℕ → ℕ → Result (Tie L) FieldFault = λ u v. and_then (λ e. e) (label_in form 4 (map numeral (numbers_of form t.label))) (λ l. Ok (record { from = u; to = v; label = l })) in
      ap (λ q. and_then (λ e. e) q (λ u. and_then (λ e. e) (number_in 3 (below n) MissingVertex (numeral t.to)) (λ v. last u v)))
      (number_in_lem 2 (below n) MissingVertex t.from (omega (arith, g.from)) (below_in n t.from g.from))
      ∙ ap (λ q. and_then (λ e. e) q (λ v. last t.from v)) (number_in_lem 3 (below n) MissingVertex t.to (omega (arith, g.to)) (below_in n t.to g.to))
      ∙ ap (λ q. and_then (λ e. e) q (λ l. Ok (record { from = t.from; to = t.to; label = l }))) (label_in_lem form faith 4 t.label g.label)

  tie_line_in : Faithful form → (room n : ℕ) (ts : List (Tie L)) (t : Tie L) → n ≤ 10 ^ 9 → GoodTie form n t → has_pair ts t.from t.to ≡ false → length ts < room
      → tie_line form room n ts (map numeral (numbers_for form (Tied t))) ≡ Ok (Tied t)
  tie_line_in faith room n ts t w g d h =
      let many : length (map numeral (numbers_for form (Tied t))) ≡ 2 + width form = omega (arith, label_width form t.label) in
      cond-true (eqb (length (map numeral (numbers_for form (Tied t)))) (2 + width form)) _ _ (eq-eqb _ _ many)
      ∙ ap (λ q. and_then InField q (new_tie room ts)) (tie_in_lem faith n t w g) ∙ new_in room n ts t g d h

  letter_in : Faithful form → (room : Counts) (stage : Stage) (n : ℕ) (ts : List (Tie L)) (r : Record L) → n ≤ 10 ^ 9 → Allowed form room stage n ts r
      → by_letter form room stage n ts (letter_for r) (map numeral (numbers_for form r)) ≡ Ok r
  letter_in faith room Opening n ts Graph w a = graph_in
  letter_in faith room Opening n ts (Vertex l) w a = absurd a.0
  letter_in faith room Opening n ts (Tied t) w a = absurd a.0
  letter_in faith room Opening n ts End w a = absurd a
  letter_in faith room Vertices n ts Graph w a = absurd a
  letter_in faith room Vertices n ts (Vertex l) w a = vertex_in faith room.vertices n l a.1 a.2
  letter_in faith room Vertices n ts (Tied t) w a = tie_line_in faith room.ties n ts t w a.1 a.2 a.3
  letter_in faith room Vertices n ts End w a = refl
  letter_in faith room Ties n ts Graph w a = absurd a
  letter_in faith room Ties n ts (Vertex l) w a = absurd a.0
  letter_in faith room Ties n ts (Tied t) w a = tie_line_in faith room.ties n ts t w a.1 a.2 a.3
  letter_in faith room Ties n ts End w a = refl
  letter_in faith room Closed n ts Graph w a = absurd a
  letter_in faith room Closed n ts (Vertex l) w a = absurd a.0
  letter_in faith room Closed n ts (Tied t) w a = absurd a.0
  letter_in faith room Closed n ts End w a = absurd a

  letter_far : (r : Record L) → 48 < letter_for r
  letter_far Graph = omega arith
  letter_far (Vertex l) = omega arith
  letter_far (Tied t) = omega arith
  letter_far End = omega arith

  -- the line of a record is taken
  pub line_in : Faithful form → (room : Counts) (stage : Stage) (n : ℕ) (ts : List (Tie L)) (r : Record L) → n ≤ 10 ^ 9 → Allowed form room stage n ts r
      → record_of form room stage n ts (line_for form r) ≡ Ok r
  line_in faith room stage n ts r w a =
      ap (λ ps. by_first form room stage n ts (letter_of (first_of ps)) (rest_of ps)) (line_split (letter_for r) (numbers_for form r) (letter_far r) (record_small faith room stage n ts r w a))
      ∙ letter_in faith room stage n ts r w a

  -- and it is the first line of a text that begins with it
  pub first_line : Faithful form → (room : Counts) (stage : Stage) (n : ℕ) (ts : List (Tie L)) (r : Record L) (rest : List ℕ) → n ≤ 10 ^ 9
      → Allowed form room stage n ts r → split 10 (text_for form r ++ rest) ≡ line_for form r ∷ split 10 rest
  first_line faith room stage n ts r rest w a = text_split (letter_for r) (numbers_for form r) rest (letter_far r) (record_small faith room stage n ts r w a)
