-- The number of each refusal.
use Rattle.std.specs.Prelude.{ℕ}
use Rattle.sheets.specs.declared.refusal.PickRefusal.{PickRefusal}
use Rattle.sheets.specs.declared.refusal.PickRefusal.TheVariants.{NotAboveLast, NotInSheet, TooMany}

abbrev pub refusal_number : PickRefusal → ℕ
refusal_number NotAboveLast = 16
refusal_number NotInSheet = 16
refusal_number TooMany = 16
