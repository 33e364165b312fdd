-- The lines that are printed for a sheet. A name is shown already, and `decimal` is how the library prints a number.
use Rattle.std.specs.Prelude.{ℕ, zero, suc, cond, List, [], ◌++◌, Ok, Err, codes, decimal, Result, ◌==◌, nat_lt}
use Rattle.graphs.specs.declared.Pay.{Pay}
use Rattle.faults.specs.declared.FieldTrouble.{FieldTrouble}
use Rattle.faults.specs.declared.FieldTrouble.TheVariants.{NoNumber, OutOfRange, LabelCount, MissingVertex}
use Rattle.faults.specs.declared.LineFault.{LineFault}
use Rattle.faults.specs.declared.LineFault.TheVariants.{TextStops, NoLineFeed, Letter, FieldCount, InField, OwnTie, RepeatedPair, NoRoom}
use Rattle.faults.specs.declared.Refusal.{Refusal}
use Rattle.faults.specs.declared.TextFault.{TextFault}
use Rattle.faults.specs.declared.TextFault.TheVariants.{TooLong, InLine}
use Rattle.faults.specs.Refusals.{refusal_of}
use Rattle.grammar.specs.declared.records.Counts.{Counts}
use Rattle.grammar.specs.Pointing.{pointed}
use Rattle.verdicts.specs.Judging.{judging}
use Rattle.verdicts.specs.Showing.{shown_bytes}
use Rattle.verdicts.specs.Tallying.{kind_count}

-- what is wrong, after the faulty bytes
abbrev pub field_complaint : FieldTrouble → List ℕ
field_complaint NoNumber = codes "is no number"
field_complaint OutOfRange = codes "is out of range"
field_complaint LabelCount = codes "is another count of label fields than a sheet has, which is 2"
field_complaint MissingVertex = codes "names a vertex that the sheet does not have"

abbrev pub complaint_of : LineFault → List ℕ
complaint_of TextStops = codes "is where the sheet stops, before its e line"
complaint_of NoLineFeed = codes "has no line feed"
complaint_of Letter = codes "is no letter that may stand here"
complaint_of FieldCount = codes "has another count of fields than its letter asks"
complaint_of (InField f) = field_complaint f.trouble
complaint_of OwnTie = codes "ties a vertex to itself"
complaint_of RepeatedPair = codes "repeats the pair of an earlier tie"
complaint_of NoRoom = codes "is one row more than a sheet may have"

-- where the fault is, the faulty bytes in quotes, and what is wrong with them
abbrev pub line_sentence : Refusal → List ℕ → List ℕ → List ℕ
line_sentence r bytes complaint =
    cond (r.field == 0)
    (codes "line " ++ (decimal r.line ++ (codes ": \"" ++ (bytes ++ (codes "\" " ++ complaint)))))
    (codes "line " ++ (decimal r.line ++ (codes ", field " ++ (decimal r.field ++ (codes ": \"" ++ (bytes ++ (codes "\" " ++ complaint)))))))

abbrev pub sentence_of : List ℕ → TextFault → List ℕ
sentence_of text (TooLong number) = codes "the file has more than 65,536 bytes"
sentence_of text (InLine f) = line_sentence (refusal_of (InLine f)) (shown_bytes (pointed text (InLine f))) (complaint_of f.fault)

-- a bad sheet: its name and the sentence, then its name and the fields of the refusal line
abbrev pub refusal_row : List ℕ → Refusal → List ℕ
refusal_row name r =
    name ++ (codes "\tr\t" ++ (decimal r.number ++ (codes "\t" ++ (decimal r.text ++ (codes "\t" ++ (decimal r.line ++ (codes "\t" ++ (decimal r.field ++ codes "\n"))))))))

abbrev pub refused_text : List ℕ → List ℕ → Refusal → List ℕ
refused_text name wrong r = (name ++ (codes ": " ++ (wrong ++ codes "\n"))) ++ refusal_row name r

-- a good sheet: its counts in a sentence and in a row
abbrev pub counts_text : List ℕ → Counts → List ℕ
counts_text name c =
    name ++ (codes ": good, with " ++ (decimal c.vertices ++ (codes " vertices and " ++ (decimal c.ties ++ (codes " ties\n" ++ (name ++ (codes "\tg\t" ++ (decimal c.vertices ++ (codes "\t" ++ (decimal c.ties ++ codes "\n"))))))))))

-- and a row for a kind of which it has some
abbrev pub kind_text : List ℕ → ℕ → ℕ → List ℕ
kind_text name kind count =
    cond (nat_lt 0 count) (name ++ (codes "\tk\t" ++ (decimal kind ++ (codes "\t" ++ (decimal count ++ codes "\n"))))) []

-- the rows of the kinds below a number, ascending, by how many there are of each
unfoldable pub kind_rows : List ℕ → (ℕ → ℕ) → ℕ → List ℕ
kind_rows name count zero = []
kind_rows name count (suc k) = kind_rows name count k ++ kind_text name k (count k)

-- kinds are below 10,000
abbrev pub taken_text : List ℕ → Counts → List Pay → List ℕ
taken_text name c vs = counts_text name c ++ kind_rows name (λ k. kind_count k vs) 10000

-- what is printed for a sheet of a name, by what judging it gives
abbrev pub answer_text : List ℕ → List ℕ → List Pay → Result Counts TextFault → List ℕ
answer_text name text labels (Ok counts) = taken_text name counts labels
answer_text name text labels (Err fault) = refused_text name (sentence_of text fault) (refusal_of fault)

abbrev pub verdict_text : Counts → List ℕ → List ℕ → List ℕ
verdict_text room name text = answer_text name text (judging room text).state.labels (judging room text).answer
