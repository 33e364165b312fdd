-- One more pick above the last keeps the picks ascending.
use Rattle.std.proofs.Common.{◌≡◌, ℕ, ◌+◌, ◌-◌, ◌<◌, Bool, true, false, cond, ◌||◌, ltb, List, [], ◌∷◌, ◌++◌, length, get_or, is_ok, Ok, Err, Result, sym, refl, ap, ◌∙◌, ⊎_elim, arith, length-append}
use Rattle.std.proofs.lemmas.List.{get_or_append_left}
use Rattle.std.proofs.Math.Seq.{get_or-append_seam}
use Rattle.std.proofs.lemmas.Bool.{ltb-true, ne_eqb, cases_eq, true≢false}
use Rattle.graphs.specs.Parts.{Rising}
use Rattle.sheets.specs.declared.refusal.PickRefusal.TheVariants.{NotAboveLast, NotInSheet, TooMany}
use Rattle.sheets.specs.declared.refusal.PickRefusal.{PickRefusal}
use Rattle.sheets.specs.Picks.{above_last, answered, most_picks}

-- the answer from its three tests
abbrev tried : Bool → Bool → Bool → Result (Unit {0}) PickRefusal
tried a b c = cond a (cond b (cond c (Ok tt) (Err TooMany)) (Err NotInSheet)) (Err NotAboveLast)

ok_parts : (a b c : Bool) → Ok tt ≡ tried a b c → (a ≡ true) × (c ≡ true)
ok_parts true true true e = (refl, refl)
ok_parts true true false e = absurd (true≢false (ap is_ok e))
ok_parts true false c e = absurd (true≢false (ap is_ok e))
ok_parts false b c e = absurd (true≢false (ap is_ok e))

module _ (ps : List ℕ) (v n : ℕ) (ok : Ok tt ≡ answered n ps v) where
  parts : (above_last ps v ≡ true) × (ltb (length ps) most_picks ≡ true)
  parts = ok_parts (above_last ps v) (ltb v n) (ltb (length ps) most_picks) ok

  pub ok_room : length ps < most_picks
  ok_room = ltb-true (length ps) most_picks parts.1

  last_below : (length ps ≡ 0 → ⊥) → get_or ps (length ps - 1) 0 < v
  last_below ne = ltb-true (get_or ps (length ps - 1) 0) v (sym (ap (λ b. b || ltb (get_or ps (length ps - 1) 0) v) (ne_eqb (length ps) 0 ne)) ∙ parts.0)

  module _ (up : Rising ps) where
    -- every pick is at most the last
    below : (i : ℕ) → i < length ps → get_or ps i 0 < v
    below i h =
        let last = last_below (omega arith) in
        ⊎_elim (λ (e : i ≡ length ps - 1). rw e last) (λ ne. omega (arith, last, up i (length ps - 1) (omega arith) (omega arith))) (cases_eq i (length ps - 1))

    pub rising_more : Rising (ps ++ v ∷ [])
    rising_more i j h k =
        let long : length (ps ++ v ∷ []) ≡ length ps + 1 = length-append ps (v ∷ []) in
        let left : i < length ps = omega (arith, long) in
        rw (get_or_append_left ps (v ∷ []) 0 i left)
        (⊎_elim
        (λ (e : j ≡ length ps). rw (e, get_or-append_seam ps v [] 0) (below i left))
        (λ ne. let right : j < length ps = omega (arith, long) in rw (get_or_append_left ps (v ∷ []) 0 j right) (up i j h right))
        (cases_eq j (length ps)))
