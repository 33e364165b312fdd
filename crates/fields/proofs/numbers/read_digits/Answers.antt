use Rattle.std.proofs.Common.{ℕ, ◌^◌, ◌<◌, ◌≤◌, arith, lit<}
use native.Mathlib.Nat.{pow-le-pow_right}
use Rattle.fields.proofs.numbers.read_digits.Goals as goal

-- fewer than nine digits stay below 10 ^ 8
small : (v i : ℕ) → v < 10 ^ i → i < 9 → v < 10 ^ 8
small v i h k = let j : i ≤ 8 = omega arith in omega (arith, pow-le-pow_right {n = 10} (lit< tt) j)

pub overflow_mul-value : goal.overflow_mul-value
overflow_mul-value c = omega (arith, small _ _ c.loop-byte.invariant.1 (omega arith))

pub overflow_add-value : goal.overflow_add-value
overflow_add-value c = omega (arith, small _ _ c.loop-byte.invariant.1 (omega arith))
