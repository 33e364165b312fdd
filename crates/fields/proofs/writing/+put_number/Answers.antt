use Rattle.std.proofs.Common.{◌≡◌, ℕ, ◌+◌, ◌/◌, ◌%◌, ◌^◌, ◌<◌, ◌≤◌, List, [], length, set, sym, refl, ap, ◌∙◌, arith}
use Rattle.fields.proofs.Decimals.{numeral_digit, numeral_step}
use Rattle.std.proofs.lemmas.List.{length_push}
use Rattle.fields.specs.Numbers.{numeral}
use Rattle.fields.specs.Lines.{overlaid}
use Rattle.fields.proofs.Overlaid.{overlaid_push}
use Rattle.fields.proofs.writing.+put_number.Goals as goal

one : (n : ℕ) → n < 10 → length (numeral n) ≡ 1
one n h = ap length (numeral_digit n h)

more : (n : ℕ) → 10 ≤ n → n < 2 ^ 64 → length (numeral n) ≡ length (numeral (n / 10)) + 1
more n h k = ap length (numeral_step n h k) ∙ length_push (numeral (n / 10)) (48 + n % 10)

alone : (n : ℕ) (ys : List ℕ) → n < 10 → 0 < length ys → set ys 0 (48 + n % 10) ≡ overlaid (numeral n) ys
alone n ys h k =
    let d : 48 + n % 10 ≡ 48 + n = omega arith in
    ap (set ys 0) d ∙ overlaid_push [] ys (48 + n) 0 refl k ∙ ap (λ ds. overlaid ds ys) (sym (numeral_digit n h))

longer : (n : ℕ) (ys : List ℕ) (k : ℕ) → 10 ≤ n → n < 2 ^ 64 → k ≡ length (numeral (n / 10)) → k < length ys
    → set (overlaid (numeral (n / 10)) ys) k (48 + n % 10) ≡ overlaid (numeral n) ys
longer n ys k h w e l =
    overlaid_push (numeral (n / 10)) ys (48 + n % 10) k (sym e) l
    ∙ ap (λ ds. overlaid ds ys) (sym (numeral_step n h w))

pub bounds-space-0 : goal.bounds-space-0
bounds-space-0 t c = omega (arith, one c.args.number (omega arith))

pub returns-then-number-lt10 : goal.returns-then-number-lt10
returns-then-number-lt10 t c = record { count = sym (one c.args.number (omega arith)); after = alone c.args.number c.args.space.now (omega arith) (omega (arith, one c.args.number (omega arith))) }

pub put_number-count-requires : goal.put_number-count-requires
put_number-count-requires t c = omega (arith, more c.args.number (omega arith) (omega arith))

pub bounds-space-count : goal.bounds-space-count
bounds-space-count t c = omega (arith, more c.args.number (omega arith) (omega arith))

pub returns : goal.returns
returns t c =
    let n : ℕ = c.args.number in
    let k = more n (omega arith) (omega arith) in
    record {
      count = omega (arith, k);
      after =
          ap (λ s. set s c.put_number-count.result (48 + n % 10)) c.put_number-count.ensures.after
          ∙ longer n c.args.space.now c.put_number-count.result (omega arith) (omega arith) c.put_number-count.ensures.count (omega (arith, k));
    }
