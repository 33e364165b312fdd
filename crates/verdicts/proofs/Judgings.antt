-- What is known of a sheet that is judged good: its counts are those of what was read, which stands at the start of the list.
use Rattle.std.proofs.Common.{◌≡◌, ℕ, ◌≤◌, ltb, List, length, take, drop, Ok, Err, Result, sym, ap, ◌∙◌, ⊎_elim, arith}
use Rattle.std.proofs.lemmas.List.{take_at, length-append}
use Rattle.std.proofs.lemmas.Bool.{cond-true, cond-false, cases_Bool}
use Rattle.graphs.specs.declared.Pay.{Pay}
use Rattle.graphs.specs.declared.Tie.{Tie}
use Rattle.faults.specs.declared.TextFault.{TextFault}
use Rattle.faults.specs.declared.TextFault.TheVariants.{TooLong}
use Rattle.grammar.specs.declared.records.Counts.{Counts}
use Rattle.grammar.specs.Labels.{pay_form}
use Rattle.grammar.specs.Reading.{Outcome, reading, counted, start}
use Rattle.grammar.proofs.Forms.{pay_faithful}
use Rattle.grammar.proofs.Read as reads
use Rattle.texts.specs.Graphs.{room_in}
use Rattle.verdicts.specs.Judging.{judging, Judged, most_file_bytes}

-- the counts of a good sheet
counts_are : (room : Counts) (text : List ℕ) (counts : Counts) → (judging room text).answer ≡ Ok counts → counts ≡ counted (judging room text).state
counts_are room text counts e = ⊎_elim
    (λ long.
    let here : judging room text ≡ record { state = start; answer = Err (TooLong 1) } = cond-true (ltb most_file_bytes (length text)) _ _ long in
    let z : ◌≡◌ {A = Result Counts TextFault} (Err (TooLong 1)) (Ok counts) = sym (ap (λ (o : Outcome Pay). o.answer) here) ∙ e in
    absurd (let o : ◌≡◌ {A = ℕ} 0 1 = cc in omega arith))
    (λ fits.
    let here : judging room text ≡ reading pay_form room 1 text = cond-false (ltb most_file_bytes (length text)) _ _ fits in
    (reads.read pay_form pay_faithful room 1 text counts (sym (ap (λ (o : Outcome Pay). o.answer) here) ∙ e)).1 ∙ sym (ap (λ (o : Outcome Pay). counted o.state) here))
    (cases_Bool (ltb most_file_bytes (length text)))

module _ (text : List ℕ) (vs₀ : List Pay) (ts₀ : List (Tie Pay)) (counts : Counts) (vs : List Pay) (ts : List (Tie Pay)) (j : Judged text vs₀ ts₀ (Ok counts) vs ts) where
  abbrev labels : List Pay
  labels = (judging (room_in vs₀ ts₀) text).state.labels

  count : counts.vertices ≡ length labels
  count = ap (λ c. c.vertices) (counts_are (room_in vs₀ ts₀) text counts (sym j.answer))

  pub within : counts.vertices ≤ length vs
  within = omega (arith, count, ap length j.vertices, length-append labels (drop (length labels) vs₀))

  pub front : take counts.vertices vs ≡ labels
  front = ap (take counts.vertices) j.vertices ∙ take_at labels (drop (length labels) vs₀) counts.vertices (sym count)
