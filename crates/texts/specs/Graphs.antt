-- What the graph reader promises: its answer and both lists after it, and what a taken text is.
use Rattle.std.specs.Prelude.{◌≡◌, ℕ, List, length, IfOk, Ok, Result}
use Rattle.graphs.specs.declared.Tie.{Tie}
use Rattle.fields.specs.Lines.{overlaid}
use Rattle.faults.specs.declared.TextFault.{TextFault}
use Rattle.grammar.specs.declared.records.Counts.{Counts}
use Rattle.grammar.specs.Labels.{Form}
use Rattle.grammar.specs.Pointing.{Blamed}
use Rattle.grammar.specs.Reading.{reading}
use Rattle.grammar.specs.Writing.{GraphText}

-- how many vertices and ties two lists have room for
abbrev pub room_in : {L : Type 0} → List L → List (Tie L) → Counts
room_in vertices ties = record { vertices = length vertices; ties = length ties }

-- the reader's answer r to a text of a number, and the lists vs and ts that it leaves of vs₀ and ts₀, are what the text reads as
pub record Read {L : Type 0} (form : Form L) (number : ℕ) (text : List ℕ) (vs₀ : List L) (ts₀ : List (Tie L)) (r : Result Counts TextFault) (vs : List L) (ts : List (Tie L)) : Type 0 where
  pub answer : r ≡ (reading form (room_in vs₀ ts₀) number text).answer
  pub vertices : vs ≡ overlaid (reading form (room_in vs₀ ts₀) number text).state.labels vs₀
  pub ties : ts ≡ overlaid (reading form (room_in vs₀ ts₀) number text).state.ties ts₀

module _ {L : Type 0} (form : Form L) (text : List ℕ) (vs₀ : List L) (ts₀ : List (Tie L)) (r : Result Counts TextFault) (vs : List L) (ts : List (Tie L)) where
  -- the text is the graph text of labels ls and ties us that keep the rules and fit the lists
  abbrev IsTextOf : List L → List (Tie L) → Type 0
  IsTextOf ls us = GraphText form (room_in vs₀ ts₀) text ls us

  -- the reader takes the text, and its lists hold just these labels and ties, in this order, at their start
  pub record Holds (ls : List L) (us : List (Tie L)) : Type 0 where
    pub answer : r ≡ Ok (record { vertices = length ls; ties = length us })
    pub vertices : vs ≡ overlaid ls vs₀
    pub ties : ts ≡ overlaid us ts₀

  -- a text is taken exactly when it is the graph text of some labels and ties, and then the lists hold just those
  pub record Exact : Type 0 where
    pub taken : (ls : List L) (us : List (Tie L)) → IsTextOf ls us → Holds ls us
    pub written : IfOk r (λ _. (ls : List L) × ((us : List (Tie L)) × (IsTextOf ls us × Holds ls us)))

-- where the text is refused, the line and the field that the fault names are to blame, after what the lines before have said
abbrev pub Blames : {L : Type 0} → Form L → ℕ → List ℕ → List L → List (Tie L) → Result Counts TextFault → Type 0
Blames form number text vs₀ ts₀ r = Blamed form (room_in vs₀ ts₀) text (reading form (room_in vs₀ ts₀) number text).state r
