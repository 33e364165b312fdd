-- When two graphs with codes are alike.
use Rattle.std.specs.Prelude.{◌≡◌, ℕ, Bool, ◌&&◌, List, length, ◌==◌, nat_lt}
use Rattle.graphs.specs.declared.Code.{Code}
use Rattle.graphs.specs.Graphs.{Graph}
use Rattle.graphs.specs.Sights.{seen, same_code}
use Rattle.graphs.specs.Occurrences.{Occurs, occurrences}

-- equally many vertices, and p occurs in q under the same-code key
pub record Alike (p q : Graph Code) : Type 0 where
  pub equal : p.size ≡ q.size
  pub row : List ℕ
  pub occurs : Occurs p (seen q same_code) row

abbrev pub alike : Graph Code → Graph Code → Bool
alike p q = p.size == q.size && nat_lt 0 (length (occurrences p (seen q same_code)))
