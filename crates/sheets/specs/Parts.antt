-- The picks that a part holds.
use Rattle.std.specs.Prelude.{ℕ, List, take}
use Rattle.sheets.specs.declared.part.Part.{Part}

abbrev pub picks_of : {S : Type 0} → Part S → List ℕ
picks_of p = take p.count p.array
