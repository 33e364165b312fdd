-- Whether a graph is alike to one of the first pieces.
use Rattle.std.specs.Prelude.{ℕ, Bool, List, take}
use Rattle.std.specs.List.{list_any}
use Rattle.graphs.specs.declared.Code.{Code}
use Rattle.graphs.specs.Graphs.{Graph}
use Rattle.graphs.specs.Alike.{alike}
use Rattle.network.specs.Pieces.{Piece, graphs}

-- one of the first k pieces
abbrev pub alike_earlier : List Piece → ℕ → Graph Code → Bool
alike_earlier ps k g = list_any (λ h. alike h g) (take k (graphs ps))
