-- Where a text is refused, the line and the field that the fault names are to blame.
use Rattle.std.proofs.Common.{◌≡◌, ℕ, ◌+◌, ◌-◌, ◌<◌, eqb, ltb, List, [], ◌∷◌, length, get_or, drop, Ok, Err, Result, sym, refl, ap, ◌∙◌, subst, arith}
use Rattle.std.proofs.lemmas.List.{get_or-drop, drop-drop}
use Rattle.std.proofs.lemmas.Bool.{cond-false, cond_both, ne_eqb, ltb-true}
use Rattle.fields.specs.Split.{split}
use Rattle.faults.specs.declared.LineFault.{LineFault}
use Rattle.faults.specs.declared.LineFault.TheVariants.{TextStops}
use Rattle.faults.specs.declared.TextFault.TheVariants.{TooLong, InLine}
use Rattle.grammar.specs.declared.records.Counts.{Counts}
use Rattle.grammar.specs.declared.records.Record.{Record}
use Rattle.grammar.specs.Labels.{Form}
use Rattle.grammar.specs.Reading.{State, Outcome, start, added, counted, is_closed, is_empty, closing, record_of, read_on, reading, most_bytes, first_of, rest_of}
use Rattle.grammar.specs.Pointing.{line_at, ToBlame, Blamed}
use Rattle.grammar.proofs.Steps.{nothing_left}
use Rattle.grammar.proofs.LineBlame.{line_blame}

at_first : (ps : List (List ℕ)) → get_or ps 0 [] ≡ first_of ps
at_first [] = refl
at_first (p ∷ ps) = refl

drop-one : (ps : List (List ℕ)) → drop 1 ps ≡ rest_of ps
drop-one [] = refl
drop-one (p ∷ ps) = refl

module _ {L : Type 0} (form : Form L) (room : Counts) (number : ℕ) (text : List ℕ) where
  -- these are the lines from line k on
  abbrev From : ℕ → List (List ℕ) → Type 0
  From k lines = (0 < k) × (drop (k - 1) (split 10 text) ≡ lines)

  from_line : (k : ℕ) (lines : List (List ℕ)) → From k lines → line_at k text ≡ first_of lines
  from_line k lines h =
      let z : k - 1 ≡ (k - 1) + 0 = omega arith in
      cond-false (eqb k 0) _ _ (ne_eqb k 0 (λ e. omega (arith, h.0)))
      ∙ ap (λ n. get_or (split 10 text) n []) z ∙ sym (get_or-drop (k - 1) (split 10 text) 0 []) ∙ at_first (drop (k - 1) (split 10 text)) ∙ ap first_of h.1

  from_next : (k : ℕ) (lines : List (List ℕ)) → From k lines → From (k + 1) (rest_of lines)
  from_next k lines h =
      let pos = h.0 in
      let z : k + 1 - 1 ≡ (k - 1) + 1 = omega arith in
      (omega arith, ap (λ n. drop n (split 10 text)) z ∙ sym (drop-drop 1 (k - 1) (split 10 text)) ∙ drop-one (drop (k - 1) (split 10 text)) ∙ ap rest_of h.1)

  abbrev Right : Outcome L → Type 0
  Right o = Blamed form room text o.state o.answer

  abbrev RightOn : List (List ℕ) → Type 0
  RightOn lines = (s : State L) (k : ℕ) → From k lines → Right (read_on form room number s k lines)

  closes : (s : State L) (k : ℕ) (line : List ℕ) → From k (line ∷ []) → Blamed form room text s (closing s.stage (counted s) number k line)
  closes s k line h =
      let is = from_line k (line ∷ []) h in
      cond_both (is_empty line) _ _ (Blamed form room text s)
      (λ t. cond_both (is_closed s.stage) (Ok (counted s)) (Err (InLine (record { text = number; line = k; fault = TextStops }))) (Blamed form room text s) (λ _. tt) (λ _. is ∙ nothing_left line t))
      (λ f. ap is_empty is ∙ f)

  steps : (next : List ℕ) (lines : List (List ℕ)) → RightOn (next ∷ lines) → (s : State L) (k : ℕ) (line : List ℕ) → From k (line ∷ next ∷ lines)
      → (r : Result (Record L) LineFault) → record_of form room s.stage (length s.labels) s.ties line ≡ r
      → Right (elim r [
        | Ok r ↦ read_on form room number (added s r) (k + 1) (next ∷ lines)
        | Err e ↦ record { state = s; answer = Err (InLine (record { text = number; line = k; fault = e })) }
      ])
  steps next lines on s k line h (Ok r) e = on (added s r) (k + 1) (from_next k (line ∷ next ∷ lines) h)
  steps next lines on s k line h (Err f) e =
      subst (λ bs. ToBlame form room s bs f) (sym (from_line k (line ∷ next ∷ lines) h)) (line_blame s line form room f e)

  right_on : (lines : List (List ℕ)) → RightOn lines
  right_on [] s k h = from_line k [] h
  right_on (line ∷ []) s k h = closes s k line h
  right_on (line ∷ next ∷ lines) s k h =
      steps next lines (right_on (next ∷ lines)) s k line h (record_of form room s.stage (length s.labels) s.ties line) refl

-- the line and the field that a fault names are to blame
pub blamed : {L : Type 0} (form : Form L) (room : Counts) (number : ℕ) (text : List ℕ)
    → Blamed form room text (reading form room number text).state (reading form room number text).answer
blamed form room number text =
    cond_both (ltb most_bytes (length text)) (record { state = start; answer = Err (TooLong number) }) (read_on form room number start 1 (split 10 text))
    (Right form room number text) (λ t. ltb-true most_bytes (length text) t) (λ _. right_on form room number text (split 10 text) start 1 (omega arith, refl))
