-- The laws of numerals: how they go on, and that a field is a number exactly where it is the numeral of one below 10 ^ 9.
use Rattle.std.proofs.Common.{pow-suc, add-one, lit<, zero, suc, ◌≡◌, ℕ, ◌+◌, ◌-◌, ◌*◌, ◌/◌, ◌%◌, ◌^◌, ◌<◌, ◌≤◌, true, not, ◌||◌, eqb, ltb, leb, List, [], ◌∷◌, ◌++◌, length, get_or, Some, None, decimal, Option, sym, refl, ap, ◌∙◌, ⊎_elim, arith, MatchOption}
use native.Mathlib.Nat.{pow-le-pow_right}
use Rattle.std.specs.Option.{unwrap_or, IfSome, IfNone}
use Rattle.std.specs.Str.{all_ascii_digits}
use Rattle.std.proofs.lemmas.List.{length_push}
use Rattle.std.proofs.lemmas.Str.Parse.{IsNumeralModel, FoldsDigits, numerals_by_fold, tells_all_ascii_digits, digits_value_short}
use Rattle.std.proofs.lemmas.Fmt.{decimal-digits_value, digits_decimal, digits_value-decimal, length-decimal-le, decimal_nonempty, first_decimal, decimal_digit, decimal_step, AppendsLastDigit, decimal_from_appends}
use Rattle.std.proofs.lemmas.Bool.{cond-true, cond-false, and_parts, and_from, or_cases, eqb-true, eqb-false, not-true, ltb-true, leb-true, lt-ltb, le-ltb, le-leb, eq-eqb, ne_eqb, or_left, or_right, not_from_false, cases_Bool, cases_eq}
use Rattle.fields.specs.Numbers.{digits_within, numeral, is_digit, read_on, shapely, number_of}

-- a numeral is what the library calls a decimal
spells : AppendsLastDigit digits_within
spells = record {
  one = λ k n h. cond-true (ltb n 10) _ _ (lt-ltb n 10 h);
  more = λ k n h. cond-false (ltb n 10) _ _ (le-ltb n 10 h);
}

decimal_is : (n : ℕ) → n < 2 ^ 64 → numeral n ≡ decimal n
unfolding numeral
decimal_is n h = decimal_from_appends digits_within spells 20 n h (length-decimal-le 20 n (omega arith) (omega arith) h)

pub numeral_digit : (n : ℕ) → n < 10 → numeral n ≡ (48 + n) ∷ []
numeral_digit n h = decimal_is n (omega arith) ∙ decimal_digit n h

pub numeral_step : (n : ℕ) → 10 ≤ n → n < 2 ^ 64 → numeral n ≡ numeral (n / 10) ++ (48 + n % 10) ∷ []
numeral_step n h w = decimal_is n w ∙ decimal_step n h w ∙ ap (λ ds. ds ++ (48 + n % 10) ∷ []) (sym (decimal_is (n / 10) (omega arith)))

pub length-numeral_le : (k n : ℕ) → 0 < k → n < 10 ^ k → n < 2 ^ 64 → length (numeral n) ≤ k
length-numeral_le k n z h w = omega (arith, ap length (decimal_is n w), length-decimal-le k n z h w)

pub numeral_some : (n : ℕ) → n < 2 ^ 64 → 0 < length (numeral n)
numeral_some n w = omega (arith, ap length (decimal_is n w), decimal_nonempty n w)

-- ten to the power of one digit less is at most the number
length-numeral_gt : (k n : ℕ) → 10 ^ k ≤ n → n < 2 ^ 64 → k < length (numeral n)
length-numeral_gt zero n h w = numeral_some n w
length-numeral_gt (suc k) n h w =
    let least : 0 ≤ k = omega arith in
    let some : 10 ^ 0 ≤ 10 ^ k = pow-le-pow_right {n = 10} (lit< tt) least in
    let long : 10 ^ k * 10 ≤ n = rw pow-suc at h in
    omega (arith, ap length (numeral_step n (omega arith) w), length_push (numeral (n / 10)) (48 + n % 10), length-numeral_gt k (n / 10) (omega arith) (omega arith))

length-numeral : (k n : ℕ) → 10 ^ k ≤ n → n < 10 * 10 ^ k → n < 2 ^ 64 → length (numeral n) ≡ k + 1
length-numeral k n l u w =
    let h : n < 10 ^ (k + 1) = rw (add-one, pow-suc) (omega arith) in
    omega (arith, length-numeral_gt k n l w, length-numeral_le (k + 1) n (omega arith) h w)

-- one digit more than the logarithm, which zero does not have
pub numeral_by_log : (n : ℕ) (log : Option ℕ) → n < 2 ^ 64 → IfNone log (n ≡ 0) → IfSome log (λ k. 10 ^ k ≤ n) → IfSome log (λ k. n < 10 * 10 ^ k)
    → length (numeral n) ≡ unwrap_or log 0 + 1
numeral_by_log n None w z l u = omega (arith, ap length (numeral_digit n (omega arith)))
numeral_by_log n (Some k) w z l u = length-numeral k n l u w

abbrev value_on : ℕ → List ℕ → ℕ
value_on v [] = v
value_on v (b ∷ bs) = value_on (v * 10 + (b - 48)) bs

folds : FoldsDigits value_on
folds = record { empty = λ n. refl; more = λ n c cs h. refl }

own : IsNumeralModel (λ ds. all_ascii_digits ds ≡ true) (value_on 0)
own = numerals_by_fold _ tells_all_ascii_digits value_on folds

some : (v : ℕ) (bs : List ℕ) → all_ascii_digits bs ≡ true → read_on v bs ≡ Some (value_on v bs)
some v [] h = refl
some v (b ∷ bs) h = let p = and_parts (is_digit b) (all_ascii_digits bs) h in cond-true (is_digit b) _ _ p.0 ∙ some (v * 10 + (b - 48)) bs p.1

-- what is read are digits, and their value
read : (v : ℕ) (bs : List ℕ) (n : ℕ) → read_on v bs ≡ Some n → (all_ascii_digits bs ≡ true) × (value_on v bs ≡ n)
read v [] n h = (refl, cc)
read v (b ∷ bs) n h = ⊎_elim
    (λ t. let r = read (v * 10 + (b - 48)) bs n (sym (cond-true (is_digit b) _ _ t) ∙ h) in (and_from (is_digit b) (all_ascii_digits bs) t r.0, r.1))
    (λ f. let z : ◌≡◌ {A = Option ℕ} None (Some n) = sym (cond-false (is_digit b) _ _ f) ∙ h in absurd (let o : ◌≡◌ {A = ℕ} 0 1 = cc in omega arith))
    (cases_Bool (is_digit b))

zero_alone : (bs : List ℕ) → (eqb (length bs) 1 || not (eqb (get_or bs 0 0) 48)) ≡ true → get_or bs 0 0 ≡ 48 → length bs ≡ 1
zero_alone bs h z = ⊎_elim (λ e. eqb-true _ _ e) (λ e. absurd (eqb-false _ _ (not-true _ e) z)) (or_cases _ _ h)

pub number_written : (bs : List ℕ) (n : ℕ) → number_of bs ≡ Some n → (n < 10 ^ 9) × (bs ≡ numeral n)
number_written bs n h = ⊎_elim
    (λ t.
    let r = read 0 bs n (sym (cond-true (shapely bs) _ _ t) ∙ h) in
    let p = and_parts _ _ t in
    let q = and_parts _ _ p.1 in
    let few : length bs ≤ 9 = leb-true _ _ q.0 in
    let small : value_on 0 bs < 10 ^ 9 = digits_value_short own bs 9 r.0 few in
    (omega (arith, small, r.1), sym (decimal-digits_value own bs r.0 (ltb-true _ _ p.0) (zero_alone bs q.1) (omega arith)) ∙ ap decimal r.1 ∙ sym (decimal_is n (omega (arith, small, r.1)))))
    (λ f. let z : ◌≡◌ {A = Option ℕ} None (Some n) = sym (cond-false (shapely bs) _ _ f) ∙ h in absurd (let o : ◌≡◌ {A = ℕ} 0 1 = cc in omega arith))
    (cases_Bool (shapely bs))

no_zero_first : (n : ℕ) → n < 10 ^ 9 → (eqb (length (decimal n)) 1 || not (eqb (get_or (decimal n) 0 0) 48)) ≡ true
no_zero_first n h = ⊎_elim
    (λ z. or_left _ _ (eq-eqb _ _ (ap length (decimal_digit n (omega arith)))))
    (λ z. let large : 48 < get_or (decimal n) 0 0 = first_decimal n (omega arith) (omega arith) in or_right _ _ (not_from_false _ (ne_eqb (get_or (decimal n) 0 0) 48 (omega arith))))
    (cases_eq n 0)

number_decimal : (n : ℕ) → n < 10 ^ 9 → number_of (decimal n) ≡ Some n
number_decimal n h =
    let some_digits : ltb 0 (length (decimal n)) ≡ true = lt-ltb _ _ (decimal_nonempty n (omega arith)) in
    let few : leb (length (decimal n)) 9 ≡ true = le-leb _ _ (length-decimal-le 9 n (omega arith) h (omega arith)) in
    cond-true (shapely (decimal n)) _ _ (and_from _ _ some_digits (and_from _ _ few (no_zero_first n h)))
    ∙ some 0 (decimal n) (digits_decimal own n (omega arith))
    ∙ ap (λ k. Some k) (digits_value-decimal own n (omega arith))

pub written_number : (n : ℕ) → n < 10 ^ 9 → number_of (numeral n) ≡ Some n
written_number n h = ap number_of (decimal_is n (omega arith)) ∙ number_decimal n h

-- a field that is no number is no numeral
pub no_number : (bs : List ℕ) → number_of bs ≡ None → (n : ℕ) → n < 10 ^ 9 → bs ≡ numeral n → ⊥
no_number bs h n small e =
    let z : ◌≡◌ {A = Option ℕ} None (Some n) = sym h ∙ ap number_of e ∙ written_number n small in let o : ◌≡◌ {A = ℕ} 0 1 = cc in omega arith

-- what a reader of a number says
pub said : (bs : List ℕ) (r : Option ℕ) → r ≡ number_of bs
    → MatchOption r ((n : ℕ) → n < 10 ^ 9 → bs ≡ numeral n → ⊥) (λ n. (n < 10 ^ 9) × (bs ≡ numeral n))
said bs None e = no_number bs (sym e)
said bs (Some n) e = number_written bs n (sym e)
