-- The digits of a number, and the number that a field of digits writes.
use Rattle.std.specs.Prelude.{ℕ, zero, suc, ◌+◌, ◌-◌, ◌*◌, ◌/◌, ◌%◌, Bool, cond, not, ◌&&◌, ◌||◌, List, [], ◌∷◌, ◌++◌, length, Some, None, Option, ◌==◌, nat_le, nat_lt, slice_index}

-- the digits of a number that has at most k of them
abbrev pub digits_within : ℕ → ℕ → List ℕ
digits_within zero n = []
digits_within (suc k) n = cond (nat_lt n 10) ((48 + n) ∷ []) (digits_within k (n / 10) ++ (48 + n % 10) ∷ [])

-- a number in base ten; one of 64 bits has at most 20 digits
unfoldable pub numeral : ℕ → List ℕ
numeral n = digits_within 20 n

abbrev pub is_digit : ℕ → Bool
is_digit b = nat_le 48 b && nat_le b 57

-- what digits say, read on from v; none where a byte is no digit
abbrev pub read_on : ℕ → List ℕ → Option ℕ
read_on v [] = Some v
read_on v (b ∷ bs) = cond (is_digit b) (read_on (v * 10 + (b - 48)) bs) None

-- one to nine bytes, and a zero stands first only alone
abbrev pub shapely : List ℕ → Bool
shapely bs = nat_lt 0 (length bs) && (nat_le (length bs) 9 && (length bs == 1 || not (slice_index bs 0 == 48)))

abbrev pub number_of : List ℕ → Option ℕ
number_of bs = cond (shapely bs) (read_on 0 bs) None
