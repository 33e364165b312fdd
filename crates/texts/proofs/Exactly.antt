-- What the reader answers and leaves, from what the text reads as: it takes just the graph texts, and blames the faulty line.
use Rattle.std.proofs.Common.{ℕ, List, IfOk, Ok, Err, Result, sym, ap, ◌∙◌, subst}
use Rattle.graphs.specs.declared.Tie.{Tie}
use Rattle.faults.specs.declared.TextFault.{TextFault}
use Rattle.fields.specs.Lines.{overlaid}
use Rattle.grammar.specs.declared.records.Counts.{Counts}
use Rattle.grammar.specs.Labels.{Form, Faithful}
use Rattle.grammar.specs.Pointing.{Blamed}
use Rattle.grammar.specs.Reading.{reading, Outcome}
use Rattle.grammar.specs.Writing.{GraphText}
use Rattle.grammar.proofs.Taken as taking
use Rattle.grammar.proofs.Read as reads
use Rattle.grammar.proofs.Blamed as blaming
use Rattle.texts.specs.Graphs.{Read, Exact, Holds, Blames, room_in}

module _ {L : Type 0} (form : Form L) (faithful : Faithful form) (number : ℕ) (text : List ℕ) (vs₀ : List L) (ts₀ : List (Tie L)) where
  abbrev outcome : Outcome L
  outcome = reading form (room_in vs₀ ts₀) number text

  module _ (vs : List L) (ts : List (Tie L)) where
    holds : (r : Result Counts TextFault) → Read form number text vs₀ ts₀ r vs ts → (ls : List L) (us : List (Tie L))
        → GraphText form (room_in vs₀ ts₀) text ls us → Holds form text vs₀ ts₀ r vs ts ls us
    holds r read ls us t =
        let e = taking.taken form faithful (room_in vs₀ ts₀) number text ls us t in
        record {
          answer = read.answer ∙ e.0;
          vertices = read.vertices ∙ ap (λ xs. overlaid xs vs₀) e.1;
          ties = read.ties ∙ ap (λ xs. overlaid xs ts₀) e.2;
        }

    written : (r : Result Counts TextFault) → Read form number text vs₀ ts₀ r vs ts
        → IfOk r (λ _. (ls : List L) × ((us : List (Tie L)) × (GraphText form (room_in vs₀ ts₀) text ls us × Holds form text vs₀ ts₀ r vs ts ls us)))
    written (Ok counts) read =
        let t = reads.read form faithful (room_in vs₀ ts₀) number text counts (sym read.answer) in
        (outcome.state.labels, (outcome.state.ties, (t.0, holds (Ok counts) read outcome.state.labels outcome.state.ties t.0)))
    written (Err fault) read = tt

    pub exact : (r : Result Counts TextFault) → Read form number text vs₀ ts₀ r vs ts → Exact form text vs₀ ts₀ r vs ts
    exact r read = record { taken = holds r read; written = written r read }

    pub blames : (r : Result Counts TextFault) → Read form number text vs₀ ts₀ r vs ts → Blames form number text vs₀ ts₀ r
    blames r read =
        let P : Result Counts TextFault → Type 0 = λ a. Blamed form (room_in vs₀ ts₀) text outcome.state a in
        subst P (sym read.answer) (blaming.blamed form (room_in vs₀ ts₀) number text)
