-- What judging a sheet answers and leaves.
use Rattle.std.specs.Prelude.{◌≡◌, ℕ, cond, List, length, Err, Result, nat_lt}
use Rattle.graphs.specs.declared.Pay.{Pay}
use Rattle.graphs.specs.declared.Tie.{Tie}
use Rattle.faults.specs.declared.TextFault.{TextFault}
use Rattle.faults.specs.declared.TextFault.TheVariants.{TooLong}
use Rattle.fields.specs.Lines.{overlaid}
use Rattle.grammar.specs.declared.records.Counts.{Counts}
use Rattle.grammar.specs.Labels.{pay_form}
use Rattle.grammar.specs.Reading.{Outcome, reading, start}
use Rattle.texts.specs.Graphs.{room_in}

-- the most bytes of a file that is judged
abbrev pub most_file_bytes : ℕ
most_file_bytes = 65536

-- the most vertices and the most ties of a sheet that is judged
abbrev pub sheet_room : Counts
sheet_room = record { vertices = 4096; ties = 4096 }

-- a longer text is too long; any other is read as text 1
abbrev pub judging : Counts → List ℕ → Outcome Pay
judging room text = cond (nat_lt most_file_bytes (length text)) (record { state = start; answer = Err (TooLong 1) }) (reading pay_form room 1 text)

-- the answer r, and the lists vs and ts that are left of vs₀ and ts₀
pub record Judged (text : List ℕ) (vs₀ : List Pay) (ts₀ : List (Tie Pay)) (r : Result Counts TextFault) (vs : List Pay) (ts : List (Tie Pay)) : Type 0 where
  pub answer : r ≡ (judging (room_in vs₀ ts₀) text).answer
  pub vertices : vs ≡ overlaid (judging (room_in vs₀ ts₀) text).state.labels vs₀
  pub ties : ts ≡ overlaid (judging (room_in vs₀ ts₀) text).state.ties ts₀
