-- What the graph of a table keeps.
use Rattle.std.proofs.Common.{◌≡◌, ℕ, ◌<◌, Bool, true, false, cond, not, ◌&&◌, eqb, ltb, List, [], ◌∷◌, length, is_some, None, Option, refl, ap, arith}
use Rattle.std.proofs.lemmas.Option.{slice_get-get_or, slice_get_past}
use Rattle.std.proofs.lemmas.Bool.{cond-false, and_parts, and_right, ltb-true, eq-eqb, not_from_true, false≢true}
use Rattle.std.specs.List.{slice_get}
use Rattle.graphs.specs.declared.Tie.{Tie}
use Rattle.graphs.specs.Graphs.{Sound}
use Rattle.graphs.specs.Tables.{counts, first_tie, table_graph}

nth_some : {L : Type 0} (ls : List L) (v : ℕ) → v < length ls → is_some (slice_get ls v) ≡ true
nth_some [] v h = let none : ⊥ = omega arith in absurd none
nth_some (l ∷ ls) v h = ap is_some (slice_get-get_or (l ∷ ls) v l h)

-- what is there only if a test passes
passes : {A : Type 0} (b : Bool) (o : Option A) → is_some (cond b o None) ≡ true → b ≡ true
passes true o e = refl
passes false o e = absurd (false≢true e)

pub counts_parts : (n u v : ℕ) → counts n u v ≡ true → (u < n) × (v < n)
counts_parts n u v e =
    let p = and_parts (ltb u n && ltb v n) (not (eqb u v)) e in
    let q = and_parts (ltb u n) (ltb v n) p.0 in
    (ltb-true u n q.0, ltb-true v n q.1)

pub counts_same : (n v : ℕ) → counts n v v ≡ false
counts_same n v = and_right (ltb v n && ltb v n) (not (eqb v v)) (not_from_true (eqb v v) (eq-eqb v v refl))

module _ {L : Type 0} (ls : List L) (ts : List (Tie L)) where
  pub table_sound : Sound (table_graph ls ts)
  table_sound = record {
    labelled = nth_some ls;
    bare = λ v h. slice_get_past ls v h;
    inside = λ u v e. counts_parts (length ls) u v (passes (counts (length ls) u v) (first_tie ts u v) e);
    apart = λ v. cond-false _ _ _ (counts_same (length ls) v);
  }
