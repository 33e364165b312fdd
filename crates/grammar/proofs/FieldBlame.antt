-- A field that is refused has the trouble that the fault names.
use Rattle.std.proofs.Common.{◌≡◌, ℕ, suc, ◌+◌, ◌<◌, ◌≤◌, false, ltb, leb, List, [], ◌∷◌, length, get_or, is_some, Some, None, Ok, Err, Option, Result, sym, refl, ap, ◌∙◌, subst, ⊎_elim, arith}
use Rattle.std.proofs.lemmas.Bool.{and_cases, leb-false, ltb-false}
use Rattle.graphs.specs.declared.Tie.{Tie}
use Rattle.fields.specs.Numbers.{number_of}
use Rattle.fields.specs.Split.{split}
use Rattle.faults.specs.declared.FieldTrouble.{FieldTrouble}
use Rattle.faults.specs.declared.FieldTrouble.TheVariants.{OutOfRange, MissingVertex}
use Rattle.faults.specs.declared.FieldFault.{FieldFault}
use Rattle.grammar.specs.declared.records.Range.{Range}
use Rattle.grammar.specs.Labels.{Form, inside}
use Rattle.grammar.specs.Reading.{State, and_then, judged, number_in, second_in, label_in, below, first_of, rest_of, tie_in}
use Rattle.grammar.specs.Pointing.{field_at, TroubleOf}
use Rattle.grammar.proofs.Steps.{ok_err, same_err, then_err, cond_err}

at_first : (fs : List (List ℕ)) → get_or fs 0 [] ≡ first_of fs
at_first [] = refl
at_first (f ∷ fs) = refl

at_next : (fs : List (List ℕ)) (k : ℕ) → get_or fs (suc k) [] ≡ get_or (rest_of fs) k []
at_next [] k = refl
at_next (f ∷ fs) k = refl

pub field_two : (line : List ℕ) → field_at 2 line ≡ first_of (rest_of (split 9 line))
field_two line = at_next (split 9 line) 0 ∙ at_first (rest_of (split 9 line))

pub field_three : (line : List ℕ) → field_at 3 line ≡ first_of (rest_of (rest_of (split 9 line)))
field_three line = at_next (split 9 line) 1 ∙ at_next (rest_of (split 9 line)) 0 ∙ at_first (rest_of (rest_of (split 9 line)))

abbrev fourth : List ℕ → List (List ℕ)
fourth line = rest_of (rest_of (rest_of (split 9 line)))

field_four : (line : List ℕ) → field_at 4 line ≡ first_of (fourth line)
field_four line = at_next (split 9 line) 2 ∙ at_next (rest_of (split 9 line)) 1 ∙ at_next (rest_of (rest_of (split 9 line))) 0 ∙ at_first (fourth line)

field_five : (line : List ℕ) → field_at 5 line ≡ first_of (rest_of (fourth line))
field_five line =
    at_next (split 9 line) 3 ∙ at_next (rest_of (split 9 line)) 2 ∙ at_next (rest_of (rest_of (split 9 line))) 1 ∙ at_next (fourth line) 0
    ∙ at_first (rest_of (fourth line))

past_end : (m n : ℕ) → inside (below m) n ≡ false → m ≤ n
past_end m n h = ⊎_elim (λ a. absurd (let l : n < 0 = leb-false 0 n a in omega arith)) (λ b. ltb-false n m b) (and_cases (leb 0 n) (ltb n m) h)

module _ {L : Type 0} (s : State L) (line : List ℕ) where
  -- the field that a fault names has the trouble that it names
  abbrev pub Troubled : FieldFault → Type 0
  Troubled f = TroubleOf s f.trouble (field_at f.field line)

  -- a number is not in its range
  abbrev Outside : Range → FieldTrouble → List ℕ → Type 0
  Outside range trouble bytes = (n : ℕ) → number_of bytes ≡ Some n → inside range n ≡ false → TroubleOf s trouble bytes

  judged_blame : (k : ℕ) (range : Range) (trouble : FieldTrouble) (bytes : List ℕ) (o : Option ℕ) → field_at k line ≡ bytes → number_of bytes ≡ o
      → Outside range trouble bytes → (f : FieldFault) → judged k range trouble o ≡ Err f → Troubled f
  judged_blame k range trouble bytes None at e out f h = subst Troubled (same_err _ f h) (ap number_of at ∙ e)
  judged_blame k range trouble bytes (Some n) at e out f h =
      let p = cond_err (inside range n) n (record { field = k; trouble = trouble }) f h in
      subst Troubled p.1 (subst (TroubleOf s trouble) (sym at) (out n e p.0))

  pub number_blame : (k : ℕ) (range : Range) (trouble : FieldTrouble) (bytes : List ℕ) → field_at k line ≡ bytes → Outside range trouble bytes
      → (f : FieldFault) → number_in k range trouble bytes ≡ Err f → Troubled f
  number_blame k range trouble bytes at out f h = judged_blame k range trouble bytes (number_of bytes) at refl out f h

  second_blame : (form : Form L) (o : Option Range) (k a : ℕ) (fs : List (List ℕ)) → field_at (k + 1) line ≡ first_of fs → (f : FieldFault)
      → second_in form o k a fs ≡ Err f → Troubled f
  second_blame form None k a fs at f h = absurd (ok_err _ f h)
  second_blame form (Some range) k a fs at f h =
      then_err Troubled (λ e. e) (number_in (k + 1) range OutOfRange (first_of fs)) (λ b. Ok (form.make a b)) f h
      (λ e g. number_blame (k + 1) range OutOfRange (first_of fs) at (λ n q _. ap is_some q) e g)
      (λ b _ g. absurd (ok_err _ f g))

  pub label_blame : (form : Form L) (k : ℕ) (fs : List (List ℕ)) → field_at k line ≡ first_of fs → field_at (k + 1) line ≡ first_of (rest_of fs) → (f : FieldFault)
      → label_in form k fs ≡ Err f → Troubled f
  label_blame form k fs at next f h =
      then_err Troubled (λ e. e) (number_in k form.first OutOfRange (first_of fs)) (λ a. second_in form form.second k a (rest_of fs)) f h
      (λ e g. number_blame k form.first OutOfRange (first_of fs) at (λ n q _. ap is_some q) e g)
      (λ a _ g. second_blame form form.second k a (rest_of fs) next f g)

  missing : (bytes : List ℕ) → Outside (below (length s.labels)) MissingVertex bytes
  missing bytes n q h = (n, q, past_end (length s.labels) n h)

  abbrev pub fields : List (List ℕ)
  fields = rest_of (split 9 line)

  abbrev pub size : ℕ
  size = length s.labels

  abbrev tie_last : Form L → ℕ → ℕ → Result (Tie L) FieldFault
  tie_last form u v = and_then (λ e. e) (label_in form 4 (fourth line)) (λ l. Ok (record { from = u; to = v; label = l }))

  abbrev tie_after : Form L → ℕ → Result (Tie L) FieldFault
  tie_after form u = and_then (λ e. e) (number_in 3 (below size) MissingVertex (first_of (rest_of fields))) (λ v. tie_last form u v)

  pub tie_blame : (form : Form L) (f : FieldFault) → tie_in form size fields ≡ Err f → Troubled f
  tie_blame form f h =
      then_err Troubled (λ e. e) (number_in 2 (below size) MissingVertex (first_of fields)) (tie_after form) f h
      (λ e g. number_blame 2 (below size) MissingVertex (first_of fields) (field_two line) (missing (first_of fields)) e g)
      (λ u _ a. then_err Troubled (λ e. e) (number_in 3 (below size) MissingVertex (first_of (rest_of fields))) (tie_last form u) f a
      (λ e g. number_blame 3 (below size) MissingVertex (first_of (rest_of fields)) (field_three line) (missing (first_of (rest_of fields))) e g)
      (λ v _ b. then_err Troubled (λ e. e) (label_in form 4 (fourth line)) (λ l. Ok (record { from = u; to = v; label = l })) f b
      (λ e g. label_blame form 4 (fourth line) (field_four line) (field_five line) e g)
      (λ l _ c. absurd (ok_err _ f c))))
