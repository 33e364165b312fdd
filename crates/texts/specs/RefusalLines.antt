-- The line of a refusal: `r`, then number, text, line and field.
use Rattle.std.specs.Prelude.{ℕ, List, [], ◌∷◌}
use Rattle.fields.specs.Lines.{line_text}
use Rattle.faults.specs.declared.Refusal.{Refusal}

abbrev pub refusal_text : Refusal → List ℕ
refusal_text r = line_text 114 (r.number ∷ r.text ∷ r.line ∷ r.field ∷ [])
