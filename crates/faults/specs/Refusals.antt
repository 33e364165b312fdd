-- The number of each fault, and where it lies.
use Rattle.std.specs.Prelude.{ℕ, Some, None, Option}
use Rattle.faults.specs.declared.FieldTrouble.{FieldTrouble}
use Rattle.faults.specs.declared.FieldTrouble.TheVariants.{NoNumber, OutOfRange, LabelCount, MissingVertex}
use Rattle.faults.specs.declared.LineFault.{LineFault}
use Rattle.faults.specs.declared.LineFault.TheVariants.{TextStops, NoLineFeed, Letter, FieldCount, InField, OwnTie, RepeatedPair, NoRoom}
use Rattle.faults.specs.declared.TextFault.{TextFault}
use Rattle.faults.specs.declared.TextFault.TheVariants.{TooLong, InLine}
use Rattle.faults.specs.declared.Refusal.{Refusal}

abbrev pub trouble_number : FieldTrouble → ℕ
trouble_number NoNumber = 5
trouble_number OutOfRange = 6
trouble_number LabelCount = 6
trouble_number MissingVertex = 6

abbrev pub line_fault_number : LineFault → ℕ
line_fault_number TextStops = 2
line_fault_number NoLineFeed = 2
line_fault_number Letter = 3
line_fault_number FieldCount = 4
line_fault_number (InField f) = trouble_number f.trouble
line_fault_number OwnTie = 7
line_fault_number RepeatedPair = 7
line_fault_number NoRoom = 8

-- the faulty field, the first for a wrong letter; none where the fault is the line's
abbrev pub faulty_field : LineFault → Option ℕ
faulty_field TextStops = None
faulty_field NoLineFeed = None
faulty_field Letter = Some 1
faulty_field FieldCount = None
faulty_field (InField f) = Some f.field
faulty_field OwnTie = None
faulty_field RepeatedPair = None
faulty_field NoRoom = None

-- the same as a number, 0 where the fault is the line's
abbrev pub field_of : LineFault → ℕ
field_of fault = elim (faulty_field fault) [ None ↦ 0 | Some k ↦ k ]

-- the four numbers of a fault; a text that is too long has no faulty line
abbrev pub refusal_of : TextFault → Refusal
refusal_of (TooLong t) = record { number = 1; text = t; line = 0; field = 0 }
refusal_of (InLine f) = record { number = line_fault_number f.fault; text = f.text; line = f.line; field = field_of f.fault }
