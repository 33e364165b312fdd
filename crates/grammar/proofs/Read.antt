-- What is taken is a graph text of what was read.
use Rattle.std.proofs.Common.{◌≡◌, ℕ, ◌+◌, ◌≤◌, true, ltb, List, [], ◌∷◌, ◌++◌, length, Ok, Err, Result, sym, refl, ap, ◌∙◌, arith}
use Rattle.std.proofs.lemmas.List.{append_assoc, append-nil}
use Rattle.std.proofs.lemmas.Bool.{cond_both, ltb-false}
use Rattle.fields.specs.Split.{split}
use Rattle.faults.specs.declared.LineFault.{LineFault}
use Rattle.faults.specs.declared.TextFault.TheVariants.{TooLong, InLine}
use Rattle.grammar.specs.declared.records.Counts.{Counts}
use Rattle.grammar.specs.declared.records.Record.{Record}
use Rattle.grammar.specs.declared.records.Stage.{Stage}
use Rattle.grammar.specs.declared.records.Stage.TheVariants.{Opening, Vertices, Ties, Closed}
use Rattle.grammar.specs.Labels.{Form, Faithful}
use Rattle.grammar.specs.Reading.{State, Outcome, start, added, counted, is_closed, is_empty, closing, record_of, read_on, reading, most_bytes}
use Rattle.grammar.specs.Writing.{GraphText}
use Rattle.grammar.proofs.Splits.{rejoined, rejoined_split}
use Rattle.grammar.proofs.Steps.{err_ok, same_ok, cond_ok, nothing_left}
use Rattle.grammar.proofs.LineRead.{line_ok}
use Rattle.grammar.proofs.Sayings.{line_for, text_for}
use Rattle.grammar.proofs.SoFar.{so_far, lines_by, Kept, kept_start, text_more, kept_more}

-- the text is read to its end
record Done {L : Type 0} (form : Form L) (room : Counts) (text : List ℕ) (counts : Counts) (s : State L) : Type 0 where
  kept : Kept form room s
  closed : s.stage ≡ Closed
  whole : so_far form s ≡ text
  count : counts ≡ counted s

closed_is : (stage : Stage) → is_closed stage ≡ true → stage ≡ Closed
closed_is Opening h = absurd (let o : ◌≡◌ {A = ℕ} 0 1 = cc in omega arith)
closed_is Vertices h = absurd (let o : ◌≡◌ {A = ℕ} 0 1 = cc in omega arith)
closed_is Ties h = absurd (let o : ◌≡◌ {A = ℕ} 0 1 = cc in omega arith)
closed_is Closed h = refl

module _ {L : Type 0} (form : Form L) (faith : Faithful form) (room : Counts) (number : ℕ) (text : List ℕ) (counts : Counts) where
  -- an outcome that takes the text has read it to its end
  abbrev Sound : Outcome L → Type 0
  Sound o = o.answer ≡ Ok counts → Done form room text counts o.state

  -- so do the lines from one on, after what is written so far
  abbrev SoundOn : List (List ℕ) → Type 0
  SoundOn lines = (s : State L) (k : ℕ) → Kept form room s → so_far form s ++ rejoined 10 lines ≡ text → Sound (read_on form room number s k lines)

  closes : (s : State L) (k : ℕ) (line : List ℕ) → Kept form room s → so_far form s ++ (line ++ []) ≡ text → closing s.stage (counted s) number k line ≡ Ok counts
      → Done form room text counts s
  closes s k line g w h =
      let p = cond_ok (is_empty line) _ _ counts h in
      let q = cond_ok (is_closed s.stage) (Ok (counted s)) _ counts p.1 in
      record {
        kept = g;
        closed = closed_is s.stage q.0;
        whole = sym (append-nil (so_far form s)) ∙ ap (λ bs. so_far form s ++ (bs ++ [])) (sym (nothing_left line p.0)) ∙ w;
        count = sym (same_ok (counted s) counts q.1);
      }

  -- what one line more has written
  joins : (s : State L) (r : Record L) (line next : List ℕ) (lines : List (List ℕ)) → line ≡ line_for form r → so_far form (added s r) ≡ so_far form s ++ text_for form r
      → so_far form s ++ rejoined 10 (line ∷ next ∷ lines) ≡ text → so_far form (added s r) ++ rejoined 10 (next ∷ lines) ≡ text
  joins s r line next lines e m w =
      ap (λ bs. bs ++ rejoined 10 (next ∷ lines)) m ∙ append_assoc (so_far form s) (text_for form r) (rejoined 10 (next ∷ lines))
      ∙ ap (λ bs. so_far form s ++ bs) (append_assoc (line_for form r) (10 ∷ []) (rejoined 10 (next ∷ lines)))
      ∙ ap (λ bs. so_far form s ++ (bs ++ 10 ∷ rejoined 10 (next ∷ lines))) (sym e) ∙ w

  steps : (next : List ℕ) (lines : List (List ℕ)) → SoundOn (next ∷ lines) → (s : State L) (k : ℕ) (line : List ℕ) → Kept form room s
      → so_far form s ++ rejoined 10 (line ∷ next ∷ lines) ≡ text → (r : Result (Record L) LineFault)
      → record_of form room s.stage (length s.labels) s.ties line ≡ r
      → Sound (elim r [
        | Ok r ↦ read_on form room number (added s r) (k + 1) (next ∷ lines)
        | Err e ↦ record { state = s; answer = Err (InLine (record { text = number; line = k; fault = e })) }
      ])
  steps next lines on s k line g w (Ok r) e h =
      let p = line_ok form faith room s.stage (length s.labels) s.ties line r e in
      on (added s r) (k + 1) (kept_more form room s r g p.1) (joins s r line next lines p.0 (text_more form room s r g p.1) w) h
  steps next lines on s k line g w (Err f) e h = absurd (err_ok _ counts h)

  sound_on : (lines : List (List ℕ)) → SoundOn lines
  sound_on [] s k g w h = absurd (err_ok _ counts h)
  sound_on (line ∷ []) s k g w h = closes s k line g w h
  sound_on (line ∷ next ∷ lines) s k g w h =
      steps next lines (sound_on (next ∷ lines)) s k line g w (record_of form room s.stage (length s.labels) s.ties line) refl h

  read_done : (reading form room number text).answer ≡ Ok counts → (length text ≤ most_bytes) × Done form room text counts (reading form room number text).state
  read_done =
      cond_both (ltb most_bytes (length text)) (record { state = start; answer = Err (TooLong number) }) (read_on form room number start 1 (split 10 text))
      (λ o. o.answer ≡ Ok counts → (length text ≤ most_bytes) × Done form room text counts o.state) (λ t h. absurd (err_ok (TooLong number) counts h))
      (λ f h. (ltb-false most_bytes (length text) f, sound_on (split 10 text) start 1 (kept_start form room) (rejoined_split 10 text) h))

graph_text_lem : {L : Type 0} (form : Form L) (room : Counts) (text : List ℕ) (counts : Counts) (s : State L) → length text ≤ most_bytes → Done form room text counts s
    → GraphText form room text s.labels s.ties
graph_text_lem form room text counts s short d =
    record {
      written = sym d.whole ∙ ap (λ stage. lines_by form stage s.labels s.ties) d.closed;
      short = short;
      good = record { labels = d.kept.labels; ties = d.kept.ties; different = d.kept.different };
      vertices = d.kept.vertices;
      ties = d.kept.most;
    }

-- what is taken is a graph text of what was read
pub read : {L : Type 0} (form : Form L) → Faithful form → (room : Counts) (number : ℕ) (text : List ℕ) (counts : Counts)
    → (reading form room number text).answer ≡ Ok counts
    → GraphText form room text (reading form room number text).state.labels (reading form room number text).state.ties × (counts ≡ counted (reading form room number text).state)
read form faith room number text counts h =
    let d = read_done form faith room number text counts h in
    (graph_text_lem form room text counts (reading form room number text).state d.0 d.1, d.1.count)
