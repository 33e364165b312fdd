-- The two label types are faithful.
use Rattle.std.proofs.Common.{◌≡◌, ℕ, refl, arith}
use Rattle.grammar.specs.Labels.{Faithful, code_form, pay_form}

pub code_faithful : Faithful code_form
code_faithful = record { whole = λ l. refl; alone = λ e a b c. refl; ones = λ a b. refl; twos = λ a b. tt; small = omega arith; both = tt }

pub pay_faithful : Faithful pay_form
pay_faithful = record {
  whole = λ l. refl;
  alone = λ e a b c. absurd (let o : ◌≡◌ {A = ℕ} 0 1 = cc in omega arith);
  ones = λ a b. refl;
  twos = λ a b. refl;
  small = omega arith;
  both = omega arith;
}
