-- A text cut into pieces at each separator.
use Rattle.std.specs.Prelude.{◌≡◌, ℕ, ◌+◌, Bool, true, false, cond, List, [], ◌∷◌, ◌++◌, Some, None, Option, ◌==◌}
use denote.Ref.{Bor}
use Rattle.fields.specs.declared.pieces.Piece.{Piece}
use Rattle.fields.specs.declared.pieces.Pieces.{Pieces}

-- bytes put before the first piece
abbrev pub ahead : List ℕ → List (List ℕ) → List (List ℕ)
ahead xs [] = []
ahead xs (p ∷ ps) = (xs ++ p) ∷ ps

-- the bytes between the separators: one piece more than there are separators
abbrev pub split : ℕ → List ℕ → List (List ℕ)
split s [] = [] ∷ []
split s (b ∷ bs) = cond (b == s) ([] ∷ split s bs) (ahead (b ∷ []) (split s bs))

-- the pieces of what is left of a text: none where nothing is, not even the last piece
abbrev pub pieces_in : ℕ → Option (Bor (List ℕ)) → List (List ℕ)
pieces_in s None = []
pieces_in s (Some bytes) = split s bytes.now

-- the pieces that are yet to be handed out, and how many have been
abbrev pub left : Pieces → List (List ℕ)
left r = pieces_in r.separator r.rest

abbrev pub given : Pieces → ℕ
given r = r.count

abbrev pub ended : List (List ℕ) → Bool
ended [] = true
ended (p ∷ ps) = false

-- the next piece is handed out with its place; after the last there is none, and nothing changes
abbrev pub Handed : Pieces → Option Piece → Pieces → Type 0
Handed before None after = (left before ≡ []) × (left after ≡ []) × (given after ≡ given before)
Handed before (Some p) after = (left before ≡ p.bytes.now ∷ left after) × (p.place ≡ given before + 1) × (given after ≡ given before + 1)
