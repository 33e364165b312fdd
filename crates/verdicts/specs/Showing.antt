-- Bytes shown by printable characters alone.
use Rattle.std.specs.Prelude.{ℕ, ◌+◌, ◌-◌, ◌/◌, ◌%◌, Bool, cond, not, ◌&&◌, List, [], ◌∷◌, ◌==◌, nat_le, nat_lt}
use Rattle.std.specs.List.{flat_map}

-- printable ASCII but for the quote and the backslash
abbrev pub is_plain : ℕ → Bool
is_plain b = nat_le 32 b && (nat_le b 126 && (not (b == 34) && not (b == 92)))

abbrev pub hex_digit : ℕ → ℕ
hex_digit n = cond (nat_lt n 10) (48 + n) (cond (nat_lt n 16) (97 + (n - 10)) 63)

-- any other byte as `\x` and two hexadecimal digits
abbrev pub escaped_byte : ℕ → List ℕ
escaped_byte b = 92 ∷ 120 ∷ hex_digit (b / 16) ∷ hex_digit (b % 16) ∷ []

-- a plain byte stands as it is, and a tab as `\t`
abbrev pub shown_byte : ℕ → List ℕ
shown_byte b = cond (is_plain b) (b ∷ []) (cond (b == 9) (92 ∷ 116 ∷ []) (escaped_byte b))

abbrev pub shown_bytes : List ℕ → List ℕ
shown_bytes bs = flat_map shown_byte bs
