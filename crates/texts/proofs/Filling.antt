-- What the reader's loop keeps: what is left reads, after what was stored, as the whole text does, and the rest of the lists is as it was.
use Rattle.std.proofs.Common.{◌≡◌, ℕ, ◌+◌, ◌<◌, ◌≤◌, false, List, ◌∷◌, length, take, set, Ok, Err, sym, refl, ap, ◌∙◌, subst, arith}
use Rattle.std.proofs.lemmas.List.{length-take-le, length-set, take_more_set}
use Rattle.std.proofs.lemmas.Bool.{cond-false}
use Rattle.graphs.specs.declared.Tie.{Tie}
use Rattle.fields.specs.Lines.{overlaid}
use Rattle.fields.specs.Split.{ended}
use Rattle.fields.proofs.Overlaid.{overlaid_push}
use Rattle.faults.specs.declared.TextFault.TheVariants.{InLine}
use Rattle.grammar.specs.declared.records.Counts.{Counts}
use Rattle.grammar.specs.declared.records.Record.{Record}
use Rattle.grammar.specs.declared.records.Record.TheVariants.{Graph, Vertex, Tied, End}
use Rattle.grammar.specs.Labels.{Form}
use Rattle.grammar.specs.Reading.{State, Outcome, read_on, reading, record_of, added}
use Rattle.texts.specs.declared.reader.Progress.{Progress}
use Rattle.texts.specs.Graphs.{room_in}
use Rattle.texts.specs.Storing.{stage_after, counts_after, vertices_after, ties_after, HasRoom}
use Rattle.texts.proofs.Room.{has_room}

-- what is stored so far
abbrev pub stored : {L : Type 0} → Progress → List L → List (Tie L) → State L
stored p vs ts = record { stage = p.stage; labels = take p.counts.vertices vs; ties = take p.counts.ties ts }

-- a list whose first n entries are filled, and whose others are as they were
abbrev pub Front : {X : Type 0} → ℕ → List X → List X → Type 0
Front n xs xs₀ = (n ≤ length xs) × (length xs ≡ length xs₀) × (xs ≡ overlaid (take n xs) xs₀)

abbrev pub Filling : {L : Type 0} → Form L → ℕ → List ℕ → List L → List (Tie L) → Progress → List L → List (Tie L) → ℕ → List (List ℕ) → Type 0
Filling form number text vs₀ ts₀ p vs ts k lines =
    (read_on form (room_in vs₀ ts₀) number (stored p vs ts) k lines ≡ reading form (room_in vs₀ ts₀) number text)
    × Front p.counts.vertices vs vs₀ × Front p.counts.ties ts ts₀

-- a line that is taken: what is left reads on from what it adds
reads_on : {L : Type 0} (form : Form L) (room : Counts) (number : ℕ) (s : State L) (k : ℕ) (line : List ℕ) (lines : List (List ℕ)) (r : Record L)
    → ended lines ≡ false → record_of form room s.stage (length s.labels) s.ties line ≡ Ok r
    → read_on form room number s k (line ∷ lines) ≡ read_on form room number (added s r) (k + 1) lines
reads_on {L} form room number s k line lines r goes e =
    cond-false (ended lines) _ _ goes
    ∙ ap (λ x. elim x as (λ _. Outcome L) [
      | Ok y ↦ read_on form room number (added s y) (k + 1) lines
      | Err f ↦ record { state = s; answer = Err (InLine (record { text = number; line = k; fault = f })) }
    ]) e

-- one entry more of a list whose front is filled
front_more : {X : Type 0} (n : ℕ) (xs xs₀ : List X) (x : X) → n < length xs → Front n xs xs₀ → Front (n + 1) (set xs n x) xs₀
front_more n xs xs₀ x room f = (
  simp length-set (omega arith),
  length-set xs n x ∙ f.1,
  ap (λ z. set z n x) f.2
      ∙ overlaid_push (take n xs) xs₀ x n (length-take-le n xs f.0) (omega (arith, f.1))
      ∙ ap (λ z. overlaid z xs₀) (sym (take_more_set xs n x room)),
)

module _ {L : Type 0} (form : Form L) (number : ℕ) (text : List ℕ) (vs₀ : List L) (ts₀ : List (Tie L)) (p : Progress) (vs : List L) (ts : List (Tie L)) (k : ℕ) (line : List ℕ) (lines : List (List ℕ)) where
  abbrev n : ℕ
  n = p.counts.vertices

  abbrev m : ℕ
  m = p.counts.ties

  abbrev next : Record L → Progress
  next r = record { stage = stage_after r; counts = counts_after r p.counts }

  abbrev Has : Record L → Type 0
  Has r = HasRoom r p.counts (length vs) (length ts)

  -- what is stored after a line is what it adds
  stored_more : (r : Record L) → Has r → stored (next r) (vertices_after r p.counts vs) (ties_after r p.counts ts) ≡ added (stored p vs ts) r
  stored_more Graph h = refl
  stored_more (Vertex l) h = ap (λ ls. record { stage = stage_after (Vertex l); labels = ls; ties = take m ts }) (take_more_set vs n l h)
  stored_more (Tied t) h = ap (λ us. record { stage = stage_after (Tied t); labels = take n vs; ties = us }) (take_more_set ts m t h)
  stored_more End h = refl

  vertices_more : (r : Record L) → Has r → Front n vs vs₀ → Front (next r).counts.vertices (vertices_after r p.counts vs) vs₀
  vertices_more Graph h f = f
  vertices_more (Vertex l) h f = front_more n vs vs₀ l h f
  vertices_more (Tied t) h f = f
  vertices_more End h f = f

  ties_more : (r : Record L) → Has r → Front m ts ts₀ → Front (next r).counts.ties (ties_after r p.counts ts) ts₀
  ties_more Graph h f = f
  ties_more (Vertex l) h f = f
  ties_more (Tied t) h f = front_more m ts ts₀ t h f
  ties_more End h f = f

  abbrev Taken : Record L → Type 0
  Taken r = record_of form (room_in vs₀ ts₀) p.stage n (take m ts) line ≡ Ok r

  room_here : (r : Record L) → Front n vs vs₀ → Front m ts ts₀ → HasRoom r (record { vertices = n; ties = length (take m ts) }) (length vs₀) (length ts₀) → Has r
  room_here Graph f g h = tt
  room_here (Vertex l) f g h = omega (arith, f.1, h)
  room_here (Tied t) f g h = omega (arith, g.1, h, length-take-le m ts g.0)
  room_here End f g h = tt

  pub room_for : (r : Record L) → Front n vs vs₀ → Front m ts ts₀ → Taken r → Has r
  room_for r f g e = room_here r f g (has_room form (room_in vs₀ ts₀) n (take m ts) p.stage line r e)

  -- a turn of the loop, with what `store` leaves
  turn : (r : Record L) → Filling form number text vs₀ ts₀ p vs ts k (line ∷ lines) → ended lines ≡ false → Taken r
      → Filling form number text vs₀ ts₀ (next r) (vertices_after r p.counts vs) (ties_after r p.counts ts) (k + 1) lines
  turn r inv goes e =
      let h : Has r = room_for r inv.1 inv.2 e in
      let e' : record_of form (room_in vs₀ ts₀) p.stage (length (take n vs)) (take m ts) line ≡ Ok r
      = ap (λ c. record_of form (room_in vs₀ ts₀) p.stage c (take m ts) line) (length-take-le n vs inv.1.0) ∙ e in (
        ap (λ s. read_on form (room_in vs₀ ts₀) number s (k + 1) lines) (stored_more r h)
            ∙ sym (reads_on form (room_in vs₀ ts₀) number (stored p vs ts) k line lines r goes e')
            ∙ inv.0,
        vertices_more r h inv.1,
        ties_more r h inv.2,
      )

  pub turned : (r : Record L) (p' : Progress) (vs' : List L) (ts' : List (Tie L))
      → Filling form number text vs₀ ts₀ p vs ts k (line ∷ lines) → ended lines ≡ false → Taken r
      → p'.stage ≡ stage_after r → p'.counts ≡ counts_after r p.counts → vs' ≡ vertices_after r p.counts vs → ts' ≡ ties_after r p.counts ts
      → Filling form number text vs₀ ts₀ p' vs' ts' (k + 1) lines
  turned r p' vs' ts' inv goes e stage counts vertices ties =
      let P : Progress → Type 0 = λ q. Filling form number text vs₀ ts₀ q (vertices_after r p.counts vs) (ties_after r p.counts ts) (k + 1) lines in
      let V : List L → Type 0 = λ ws. Filling form number text vs₀ ts₀ p' ws (ties_after r p.counts ts) (k + 1) lines in
      let T : List (Tie L) → Type 0 = λ us. Filling form number text vs₀ ts₀ p' vs' us (k + 1) lines in
      let same : next r ≡ p' = sym (λ i. record { stage = stage i; counts = counts i }) in
      subst T (sym ties) (subst V (sym vertices) (subst P same (turn r inv goes e)))
