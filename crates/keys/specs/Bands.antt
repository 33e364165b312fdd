-- What the rows of a band key fit.
use Rattle.std.specs.Prelude.{Bool, false, ◌&&◌, List, Some, None, Option, ◌==◌, nat_le}
use Rattle.std.specs.List.{find}
use Rattle.graphs.specs.declared.Code.{Code}
use Rattle.graphs.specs.declared.Pay.{Pay}
use Rattle.graphs.specs.Sights.{same_code}
use Rattle.keys.specs.declared.bands.Band.{Band}

-- the first row with the code
abbrev pub first_band : List Band → Code → Option Band
first_band bs c = find (λ b. same_code b.code c) bs

-- whether a row fits the label: the kind is equal, and low ≤ pence ≤ high. No row fits nothing.
abbrev pub row_fits : Option Band → Pay → Bool
row_fits None l = false
row_fits (Some b) l = b.kind == l.kind && nat_le b.low l.pence && nat_le l.pence b.high

abbrev pub band_fits : List Band → Code → Pay → Bool
band_fits bs c = row_fits (first_band bs c)
