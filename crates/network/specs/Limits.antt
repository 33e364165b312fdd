-- The limits of a book, and of what it is given.
use Rattle.std.specs.Prelude.{ℕ}

-- vertices in a piece, and so in a pattern
abbrev pub most_vertices : ℕ
most_vertices = 10

abbrev pub most_pieces : ℕ
most_pieces = 128

-- stored ties, over all pieces
abbrev pub most_stored_ties : ℕ
most_stored_ties = 1_024

abbrev pub most_patterns : ℕ
most_patterns = 32

abbrev pub lowest_code : ℕ
lowest_code = 1

abbrev pub highest_code : ℕ
highest_code = 9_999

abbrev pub most_sheet_vertices : ℕ
most_sheet_vertices = 4_096

-- numbers in a work list or a row list
abbrev pub most_numbers : ℕ
most_numbers = 1_000_000
