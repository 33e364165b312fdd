-- The bytes that a fault speaks of, and that they are to blame.
use Rattle.std.specs.Prelude.{◌≡◌, ℕ, ◌-◌, ◌<◌, ◌≤◌, true, false, cond, List, [], length, is_some, Some, None, Ok, Err, Result, ◌==◌, slice_index_or}
use Rattle.fields.specs.Numbers.{number_of}
use Rattle.fields.specs.Split.{split}
use Rattle.faults.specs.declared.FieldTrouble.{FieldTrouble}
use Rattle.faults.specs.declared.FieldTrouble.TheVariants.{NoNumber, OutOfRange, LabelCount, MissingVertex}
use Rattle.faults.specs.declared.LineFault.{LineFault}
use Rattle.faults.specs.declared.LineFault.TheVariants.{TextStops, NoLineFeed, Letter, FieldCount, InField, OwnTie, RepeatedPair, NoRoom}
use Rattle.faults.specs.declared.TextFault.{TextFault}
use Rattle.faults.specs.declared.TextFault.TheVariants.{TooLong, InLine}
use Rattle.grammar.specs.declared.records.Counts.{Counts}
use Rattle.grammar.specs.Labels.{Form}
use Rattle.grammar.specs.Reading.{State, record_of, is_empty, most_bytes}
use Rattle.faults.specs.Refusals.{refusal_of}

-- piece k of a text, counted from 1; empty where there is none
abbrev pub piece_at : ℕ → ℕ → List ℕ → List ℕ
piece_at separator k text = cond (k == 0) [] (slice_index_or (split separator text) (k - 1) [])

abbrev pub line_at : ℕ → List ℕ → List ℕ
line_at k text = piece_at 10 k text

-- the field of a line, or the whole line for field 0
abbrev pub field_at : ℕ → List ℕ → List ℕ
field_at k line = cond (k == 0) line (piece_at 9 k line)

-- the second text for a fault in text 2, and else the first
abbrev pub text_of : List ℕ → List ℕ → TextFault → List ℕ
text_of first second fault = cond ((refusal_of fault).text == 2) second first

-- the faulty field, or the faulty line where the fault is in no field
abbrev pub pointed : List ℕ → TextFault → List ℕ
pointed text fault = field_at (refusal_of fault).field (line_at (refusal_of fault).line text)

-- the line has this very fault, after what the lines before it have said
abbrev pub FaultOf : {L : Type 0} → Form L → Counts → State L → List ℕ → LineFault → Type 0
FaultOf form room s line fault = record_of form room s.stage (length s.labels) s.ties line ≡ Err fault

-- the field has this trouble: it is no number, or a number that is not allowed there
abbrev pub TroubleOf : {L : Type 0} → State L → FieldTrouble → List ℕ → Type 0
TroubleOf s NoNumber field = number_of field ≡ None
TroubleOf s OutOfRange field = is_some (number_of field) ≡ true
TroubleOf s LabelCount field = is_some (number_of field) ≡ true
TroubleOf s MissingVertex field = (n : ℕ) × (number_of field ≡ Some n) × (length s.labels ≤ n)

-- a line is to blame for a fault: what is wrong is wrong with that line, and with that field of it
abbrev pub ToBlame : {L : Type 0} → Form L → Counts → State L → List ℕ → LineFault → Type 0
ToBlame form room s line TextStops = line ≡ []
ToBlame form room s line NoLineFeed = is_empty line ≡ false
ToBlame form room s line Letter = FaultOf form room s line Letter
ToBlame form room s line FieldCount = FaultOf form room s line FieldCount
ToBlame form room s line (InField f) = FaultOf form room s line (InField f) × TroubleOf s f.trouble (field_at f.field line)
ToBlame form room s line OwnTie = FaultOf form room s line OwnTie
ToBlame form room s line RepeatedPair = FaultOf form room s line RepeatedPair
ToBlame form room s line NoRoom = FaultOf form room s line NoRoom

-- where a text is refused, the line that the fault names is to blame, in what the lines before it have said
abbrev pub Blamed : {L : Type 0} → Form L → Counts → List ℕ → State L → Result Counts TextFault → Type 0
Blamed form room text s (Ok counts) = Unit {0}
Blamed form room text s (Err (TooLong number)) = most_bytes < length text
Blamed form room text s (Err (InLine f)) = ToBlame form room s (line_at f.line text) f.fault
