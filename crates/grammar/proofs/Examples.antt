-- Worked examples on the definitions: they compute.
use Rattle.std.proofs.Common.{◌≡◌, ℕ, List, [], ◌∷◌, Ok, Err, codes, Result, refl}
use Rattle.graphs.specs.declared.Pay.{Pay}
use Rattle.graphs.specs.declared.Tie.{Tie}
use Rattle.fields.specs.Numbers.{numeral}
use Rattle.grammar.specs.declared.records.Counts.{Counts}
use Rattle.faults.specs.declared.Refusal.{Refusal}
use Rattle.faults.specs.Refusals.{refusal_of}
use Rattle.grammar.specs.Labels.{code_form, pay_form}
use Rattle.grammar.specs.Reading.{reading}
use Rattle.grammar.specs.Writing.{graph_text}
use Rattle.grammar.specs.Pointing.{pointed}

abbrev room : Counts
room = record { vertices = 3; ties = 1 }

abbrev sheet : List ℕ
sheet = codes "g\t2\nn\t10\t0\nn\t20\t500\nt\t0\t1\t30\t7\ne\n"

abbrev labels : List Pay
labels = record { kind = 10; pence = 0 } ∷ record { kind = 20; pence = 500 } ∷ []

abbrev ties : List (Tie Pay)
ties = record { from = 0; to = 1; label = record { kind = 30; pence = 7 } } ∷ []

good : (reading pay_form room 2 sheet).answer ≡ Ok (record { vertices = 2; ties = 1 })
good = refl

kept : (reading pay_form room 2 sheet).state.labels ≡ labels
kept = refl

tied : (reading pay_form room 2 sheet).state.ties ≡ ties
tied = refl

written : graph_text pay_form labels ties ≡ sheet
unfolding numeral
written = refl

-- the refusal of a text of codes, and what is pointed at
abbrev refusal : List ℕ → Result Counts Refusal
refusal text = elim (reading code_form room 1 text).answer [ Ok n ↦ Ok n | Err e ↦ Err (refusal_of e) ]

abbrev shown : List ℕ → List ℕ
shown text = elim (reading code_form room 1 text).answer [ Ok n ↦ [] | Err e ↦ pointed text e ]

abbrev at : ℕ → ℕ → ℕ → Result Counts Refusal
at number line field = Err (record { number = number; text = 1; line = line; field = field })

empty : refusal [] ≡ at 2 1 0
empty = refl

stops : refusal (codes "g\t1\nn\t7\n") ≡ at 2 3 0
stops = refl

unended : refusal (codes "g\t1\nn\t7\ne") ≡ at 2 3 0
unended = refl

after_end : refusal (codes "g\t1\ne\n\n") ≡ at 3 3 1
after_end = refl

unended_after_end : refusal (codes "g\t1\ne\nx") ≡ at 2 3 0
unended_after_end = refl

late_vertex : refusal (codes "g\t1\nn\t7\nn\t7\nt\t0\t1\t5\nn\t7\ne\n") ≡ at 3 5 1
late_vertex = refl

few_fields : refusal (codes "g\n") ≡ at 4 1 0
few_fields = refl

spoilt : refusal (codes "g\t1\nn\t73x\n") ≡ at 5 2 2
spoilt = refl

spoilt_shown : shown (codes "g\t1\nn\t73x\n") ≡ codes "73x"
spoilt_shown = refl

other_width : refusal (codes "g\t2\n") ≡ at 6 1 2
other_width = refl

missing : refusal (codes "g\t1\nn\t7\nt\t0\t1\t5\n") ≡ at 6 3 3
missing = refl

own : refusal (codes "g\t1\nn\t7\nt\t0\t0\t5\n") ≡ at 7 3 0
own = refl

full : refusal (codes "g\t1\nn\t1\nn\t1\nn\t1\nn\t1\n") ≡ at 8 5 0
full = refl
