-- A line of a letter and numbers, and what a buffer holds after a text is written at its start.
use Rattle.std.specs.Prelude.{ℕ, cond, List, [], ◌∷◌, ◌++◌, length, drop, Ok, Err, Result, nat_le}
use Rattle.std.specs.List.{flat_map}
use Rattle.fields.specs.Numbers.{numeral}
use Rattle.fields.specs.declared.writing.TooShort.{TooShort}

-- each number after a tab
abbrev pub numbers_text : List ℕ → List ℕ
numbers_text ns = flat_map (λ n. 9 ∷ numeral n) ns

-- a letter and numbers, tab-separated and ended by a line feed
abbrev pub line_text : ℕ → List ℕ → List ℕ
line_text letter ns = letter ∷ (numbers_text ns ++ 10 ∷ [])

-- what a list holds after others are written at its start
abbrev pub overlaid : {X : Type 0} → List X → List X → List X
overlaid xs ys = xs ++ drop (length xs) ys

-- the number of the refusal that a buffer is too short
abbrev pub too_short_number : TooShort → ℕ
too_short_number _ = 15

-- the answer of a call that writes a text at the start of a buffer: its length, or that the buffer is too short
abbrev pub length_in : List ℕ → List ℕ → Result ℕ TooShort
length_in text buffer = cond (nat_le (length text) (length buffer)) (Ok (length text)) (Err (record {}))

-- what the buffer holds then
abbrev pub overlaid_in : List ℕ → List ℕ → List ℕ
overlaid_in text buffer = cond (nat_le (length text) (length buffer)) (overlaid text buffer) buffer
