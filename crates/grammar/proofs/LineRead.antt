-- A line that is taken is the line of the record that it is taken for, and the record is allowed.
use Rattle.std.proofs.Common.{◌≡◌, ℕ, suc, ◌+◌, ◌<◌, true, cond, eqb, ltb, leb, List, [], ◌∷◌, ◌++◌, map, length, Some, None, Ok, Err, Option, Result, sym, ap, ◌∙◌, subst, arith}
use Rattle.std.specs.List.{flat_map}
use Rattle.std.proofs.lemmas.List.{nil_from_length}
use Rattle.std.proofs.lemmas.Option.{none-some}
use Rattle.std.proofs.lemmas.Bool.{cond_both, and_parts, eqb-true, eqb-false, leb-true, ltb-true}
use Rattle.graphs.specs.declared.Tie.{Tie}
use Rattle.fields.specs.Numbers.{numeral}
use Rattle.fields.specs.Split.{split}
use Rattle.faults.specs.declared.FieldTrouble.TheVariants.{LabelCount, MissingVertex}
use Rattle.faults.specs.declared.FieldFault.{FieldFault}
use Rattle.faults.specs.declared.LineFault.TheVariants.{Letter, FieldCount, InField, OwnTie, RepeatedPair, NoRoom}
use Rattle.grammar.specs.declared.records.Counts.{Counts}
use Rattle.grammar.specs.declared.records.Record.{Record}
use Rattle.grammar.specs.declared.records.Record.TheVariants.{Graph, Vertex, Tied, End}
use Rattle.grammar.specs.declared.records.Stage.{Stage}
use Rattle.grammar.specs.declared.records.Stage.TheVariants.{Opening, Vertices, Ties, Closed}
use Rattle.grammar.specs.Labels.{Form, Faithful, inside, width}
use Rattle.grammar.specs.Reading.{and_then, number_in, label_in, only, below, first_of, rest_of, has_pair, graph_line, vertex_line, new_tie, tie_in, tie_line, end_line, letter_of, by_letter, by_first, record_of}
use Rattle.grammar.specs.Writing.{GoodLabel, GoodTie}
use Rattle.grammar.proofs.Splits.{rejoined_split}
use Rattle.grammar.proofs.Numerals.{numbers_fields}
use Rattle.grammar.proofs.Steps.{err_ok, same_ok, then_ok, cond_ok, cond_other, fields_more}
use Rattle.grammar.proofs.LabelLaws.{number_ok, inside_end, label_ok}
use Rattle.grammar.proofs.Sayings.{letter_for, numbers_for, line_for, InGraph, Allowed}

only_is : (w n : ℕ) → inside (only w) n ≡ true → n ≡ w
only_is w n h = let p = and_parts (leb w n) (ltb n (w + 1)) h in omega (arith, leb-true w n p.0, ltb-true n (w + 1) p.1)

-- the letter and the fields are those of the record, and it is allowed
abbrev Said : {L : Type 0} → Form L → Counts → Stage → ℕ → List (Tie L) → ℕ → List (List ℕ) → Record L → Type 0
Said form room stage n ts letter fs r = (letter ≡ letter_for r) × (fs ≡ map numeral (numbers_for form r)) × Allowed form room stage n ts r

module _ {L : Type 0} (form : Form L) (faith : Faithful form) (room : Counts) (n : ℕ) (ts : List (Tie L)) (letter : ℕ) (fs : List (List ℕ)) (r : Record L) where
  graph_ok : letter ≡ 103 → graph_line form fs ≡ Ok r → Said form room Opening n ts letter fs r
  graph_ok e h =
      let p = cond_ok (eqb (length fs) 1) _ FieldCount r h in
      let q = then_ok InField (number_in 2 (only (width form)) LabelCount (first_of fs)) (λ _. Ok Graph) r p.1 in
      let m = number_ok 2 (only (width form)) LabelCount (first_of fs) q.0 q.1 in
      let f = fields_more 0 fs (eqb-true _ _ p.0) in
      let field : first_of fs ≡ numeral (width form) = m.0 ∙ ap numeral (only_is (width form) q.0 m.1) in
      subst (Said form room Opening n ts letter fs) (same_ok Graph r q.2) (e, f.0 ∙ (λ i. field i ∷ nil_from_length (rest_of fs) f.1 i), tt)

  vertex_ok : letter ≡ 110 → vertex_line form room.vertices n fs ≡ Ok r → Said form room Vertices n ts letter fs r
  vertex_ok e h =
      let p = cond_ok (eqb (length fs) (width form)) _ FieldCount r h in
      let q = then_ok InField (label_in form 2 fs) (λ l. cond (ltb n room.vertices) (Ok (Vertex l)) (Err NoRoom)) r p.1 in
      let l = label_ok form faith 2 fs q.0 (eqb-true _ _ p.0) q.1 in
      let v = cond_ok (ltb n room.vertices) (Ok (Vertex q.0)) NoRoom r q.2 in
      subst (Said form room Vertices n ts letter fs) (same_ok (Vertex q.0) r v.1) (e, l.0, (tt, l.1, ltb-true _ _ v.0))

  abbrev tie_last : ℕ → ℕ → Result (Tie L) FieldFault
  tie_last u v = and_then (λ e. e) (label_in form 4 (rest_of (rest_of fs))) (λ l. Ok (record { from = u; to = v; label = l }))

  abbrev tie_after : ℕ → Result (Tie L) FieldFault
  tie_after u = and_then (λ e. e) (number_in 3 (below n) MissingVertex (first_of (rest_of fs))) (λ v. tie_last u v)

  -- the ends, and the label, of a tie
  tie_fields : (t : Tie L) → length fs ≡ 2 + width form → tie_in form n fs ≡ Ok t
      → (fs ≡ map numeral (numbers_for form (Tied t))) × ((t.from < n) × (t.to < n) × GoodLabel form t.label)
  tie_fields t w h =
      let a = fields_more (suc (width form)) fs (omega arith) in
      let b = fields_more (width form) (rest_of fs) a.1 in
      let p = then_ok (λ e. e) (number_in 2 (below n) MissingVertex (first_of fs)) (λ u. tie_after u) t h in
      let q = then_ok (λ e. e) (number_in 3 (below n) MissingVertex (first_of (rest_of fs))) (λ v. tie_last p.0 v) t p.2 in
      let m = then_ok (λ e. e) (label_in form 4 (rest_of (rest_of fs))) (λ l. Ok (record { from = p.0; to = q.0; label = l })) t q.2 in
      let u = number_ok 2 (below n) MissingVertex (first_of fs) p.0 p.1 in
      let v = number_ok 3 (below n) MissingVertex (first_of (rest_of fs)) q.0 q.1 in
      let l = label_ok form faith 4 (rest_of (rest_of fs)) m.0 b.1 m.1 in
      subst (λ t. (fs ≡ map numeral (numbers_for form (Tied t))) × ((t.from < n) × (t.to < n) × GoodLabel form t.label))
      (same_ok (record { from = p.0; to = q.0; label = m.0 }) t m.2)
      (a.0 ∙ (λ i. u.0 i ∷ (b.0 ∙ (λ j. v.0 j ∷ l.0 j)) i), (inside_end (below n) p.0 u.1, inside_end (below n) q.0 v.1, l.1))

  new_ok : (stage : Stage) → InGraph stage → letter ≡ 116 → (t : Tie L) → fs ≡ map numeral (numbers_for form (Tied t))
      → ((t.from < n) × (t.to < n) × GoodLabel form t.label) → new_tie room.ties ts t ≡ Ok r → Said form room stage n ts letter fs r
  new_ok stage at e t f g h =
      let a = cond_other (eqb t.from t.to) _ OwnTie r h in
      let b = cond_other (has_pair ts t.from t.to) _ RepeatedPair r a.1 in
      let c = cond_ok (ltb (length ts) room.ties) (Ok (Tied t)) NoRoom r b.1 in
      let good : GoodTie form n t = record { from = g.0; to = g.1; apart = eqb-false _ _ a.0; label = g.2 } in
      subst (Said form room stage n ts letter fs) (same_ok (Tied t) r c.1) (e, f, (at, good, b.0, ltb-true _ _ c.0))

  tie_ok : (stage : Stage) → InGraph stage → letter ≡ 116 → tie_line form room.ties n ts fs ≡ Ok r → Said form room stage n ts letter fs r
  tie_ok stage at e h =
      let p = cond_ok (eqb (length fs) (2 + width form)) _ FieldCount r h in
      let q = then_ok InField (tie_in form n fs) (new_tie room.ties ts) r p.1 in
      let g = tie_fields q.0 (eqb-true _ _ p.0) q.1 in
      new_ok stage at e q.0 g.0 g.1 q.2

  end_ok : (stage : Stage) → InGraph stage → letter ≡ 101 → end_line fs ≡ Ok r → Said form room stage n ts letter fs r
  end_ok stage at e h =
      let p = cond_ok (eqb (length fs) 0) (Ok End) FieldCount r h in
      subst (Said form room stage n ts letter fs) (same_ok End r p.1) (e, nil_from_length fs (eqb-true _ _ p.0), at)

  tail_ok : (stage : Stage) → InGraph stage → cond (eqb letter 116) (tie_line form room.ties n ts fs) (cond (eqb letter 101) (end_line fs) (Err Letter)) ≡ Ok r
      → Said form room stage n ts letter fs r
  tail_ok stage at h =
      cond_both (eqb letter 116) (tie_line form room.ties n ts fs) (cond (eqb letter 101) (end_line fs) (Err Letter)) (λ q. q ≡ Ok r → Said form room stage n ts letter fs r)
      (λ t g. tie_ok stage at (eqb-true _ _ t) g)
      (λ f g. let p = cond_ok (eqb letter 101) (end_line fs) Letter r g in end_ok stage at (eqb-true _ _ p.0) p.1)
      h

  letter_ok : (stage : Stage) → by_letter form room stage n ts letter fs ≡ Ok r → Said form room stage n ts letter fs r
  letter_ok Opening h = let p = cond_ok (eqb letter 103) (graph_line form fs) Letter r h in graph_ok (eqb-true _ _ p.0) p.1
  letter_ok Vertices h =
      cond_both (eqb letter 110) (vertex_line form room.vertices n fs) (cond (eqb letter 116) (tie_line form room.ties n ts fs) (cond (eqb letter 101) (end_line fs) (Err Letter)))
      (λ q. q ≡ Ok r → Said form room Vertices n ts letter fs r) (λ t g. vertex_ok (eqb-true _ _ t) g) (λ f g. tail_ok Vertices tt g) h
  letter_ok Ties h = tail_ok Ties tt h
  letter_ok Closed h = absurd (err_ok Letter r h)

first_letter : (f : List ℕ) (c : ℕ) → letter_of f ≡ Some c → f ≡ c ∷ []
first_letter [] c e = absurd (none-some c e)
first_letter (b ∷ []) c e = let z : b ≡ c = cc in ap (λ x. x ∷ []) z
first_letter (b ∷ d ∷ bs) c e = absurd (none-some c e)

first_ok : {L : Type 0} (form : Form L) → Faithful form → (room : Counts) (stage : Stage) (n : ℕ) (ts : List (Tie L)) (first : Option ℕ) (fs : List (List ℕ)) (r : Record L)
    → by_first form room stage n ts first fs ≡ Ok r → (first ≡ Some (letter_for r)) × (fs ≡ map numeral (numbers_for form r)) × Allowed form room stage n ts r
first_ok form faith room stage n ts None fs r h = absurd (err_ok Letter r h)
first_ok form faith room stage n ts (Some letter) fs r h =
    let p = letter_ok form faith room n ts letter fs r stage h in (ap (λ l. Some l) p.0, p.1, p.2)

-- a line that is taken
pub line_ok : {L : Type 0} (form : Form L) → Faithful form → (room : Counts) (stage : Stage) (n : ℕ) (ts : List (Tie L)) (line : List ℕ) (r : Record L)
    → record_of form room stage n ts line ≡ Ok r → (line ≡ line_for form r) × Allowed form room stage n ts r
line_ok form faith room stage n ts line r h =
    let p = first_ok form faith room stage n ts (letter_of (first_of (split 9 line))) (rest_of (split 9 line)) r h in
    let f = first_letter (first_of (split 9 line)) (letter_for r) p.0 in
    (sym (rejoined_split 9 line) ∙ (λ i. f i ++ flat_map (λ q. 9 ∷ q) (p.1 i)) ∙ ap (λ bs. letter_for r ∷ bs) (numbers_fields (numbers_for form r)), p.2)
