-- Ties that differ, with one more at the end and with one in the middle.
use Rattle.std.proofs.Common.{◌≡◌, ℕ, false, ◌&&◌, eqb, List, [], ◌∷◌, ◌++◌, refl, arith}
use Rattle.std.proofs.lemmas.Bool.{or_from, or_parts}
use Rattle.std.proofs.lemmas.Bool.Decides.{nat_tests}
use Rattle.graphs.specs.declared.Tie.{Tie}
use Rattle.grammar.specs.Reading.{has_pair}
use Rattle.grammar.specs.Writing.{Different}

swapped : (a b c d : ℕ) → (eqb a b && eqb c d) ≡ false → (eqb b a && eqb d c) ≡ false
swapped a b c d h = grind (arith, nat_tests)

module _ {L : Type 0} where
  none_append : (xs ys : List (Tie L)) (u v : ℕ) → has_pair xs u v ≡ false → has_pair ys u v ≡ false → has_pair (xs ++ ys) u v ≡ false
  none_append [] ys u v h k = k
  none_append (x ∷ xs) ys u v h k = let p = or_parts _ (has_pair xs u v) h in or_from _ _ p.0 (none_append xs ys u v p.1 k)

  none_right : (xs ys : List (Tie L)) (u v : ℕ) → has_pair (xs ++ ys) u v ≡ false → has_pair ys u v ≡ false
  none_right [] ys u v h = h
  none_right (x ∷ xs) ys u v h = none_right xs ys u v (or_parts _ (has_pair (xs ++ ys) u v) h).1

  -- one more tie, of a new pair
  pub different_push : (ts : List (Tie L)) (t : Tie L) → Different ts → has_pair ts t.from t.to ≡ false → Different (ts ++ t ∷ [])
  different_push [] t d h = (refl, tt)
  different_push (x ∷ ts) t d h =
      let p = or_parts (eqb x.from t.from && eqb x.to t.to) (has_pair ts t.from t.to) h in
      (none_append ts (t ∷ []) x.from x.to d.0 (or_from _ _ (swapped x.from t.from x.to t.to p.0) refl), different_push ts t d.1 p.1)

  -- a tie is of another pair than those before it
  pub different_before : (xs : List (Tie L)) (t : Tie L) (ys : List (Tie L)) → Different (xs ++ t ∷ ys) → has_pair xs t.from t.to ≡ false
  different_before [] t ys d = refl
  different_before (x ∷ xs) t ys d =
      let p = or_parts (eqb t.from x.from && eqb t.to x.to) (has_pair ys x.from x.to) (none_right xs (t ∷ ys) x.from x.to d.0) in
      or_from _ _ (swapped t.from x.from t.to x.to p.0) (different_before xs t ys d.1)
