-- What the part of a graph keeps.
use Rattle.std.proofs.Common.{◌≡◌, ℕ, zero, suc, ◌<◌, ◌≤◌, true, List, [], ◌∷◌, length, get_or, is_some, None, Option, sym, refl, ap, ◌∙◌, ⊎_elim, arith}
use Rattle.std.proofs.lemmas.Bool.{cond-true, cond-false, lt-ltb, le-ltb, cases_lt, false≢true}
use Rattle.graphs.specs.Graphs.{Graph, Sound}
use Rattle.graphs.specs.Parts.{Rising, below, picked, part_graph}

-- how many numbers of a list are below n
abbrev pub few : ℕ → List ℕ → ℕ
few n ps = length (below n ps)

pub few_yes : (n x : ℕ) (xs : List ℕ) → x < n → few n (x ∷ xs) ≡ suc (few n xs)
few_yes n x xs h = ap length (cond-true _ _ _ (lt-ltb x n h))

few_no : (n x : ℕ) (xs : List ℕ) → n ≤ x → few n (x ∷ xs) ≡ few n xs
few_no n x xs h = ap length (cond-false _ _ _ (le-ltb x n h))

pub rising_tail : (x : ℕ) (xs : List ℕ) → Rising (x ∷ xs) → Rising xs
rising_tail x xs r i j h k = r (suc i) (suc j) (omega arith) (omega arith)

-- in a rising list nothing after a number that is too large is small
few_none : (n : ℕ) (xs : List ℕ) → ((j : ℕ) → j < length xs → n ≤ get_or xs j 0) → few n xs ≡ 0
few_none n [] h = refl
few_none n (x ∷ xs) h = few_no n x xs (h zero (omega arith)) ∙ few_none n xs (λ j k. h (suc j) (omega arith))

pub few_stops : (n x : ℕ) (xs : List ℕ) → Rising (x ∷ xs) → n ≤ x → few n (x ∷ xs) ≡ 0
few_stops n x xs r l = few_no n x xs l ∙ few_none n xs (λ j k. omega (arith, r zero (suc j) (omega arith) (omega arith)))

abbrev Small : ℕ → List ℕ → ℕ → Type 0
Small n ps v = (v < length ps) × (get_or ps v 0 < n)

small_more : (n x : ℕ) (xs : List ℕ) → x < n → ((v : ℕ) → v < few n xs → Small n xs v) → (v : ℕ) → v < suc (few n xs) → Small n (x ∷ xs) v
small_more n x xs l more zero h = (omega arith, l)
small_more n x xs l more (suc v) h = let r = more v (omega arith) in (omega arith, r.1)

-- the first picks are those that the graph has
pub small : (n : ℕ) (ps : List ℕ) → Rising ps → (v : ℕ) → v < few n ps → Small n ps v
small n [] r v h = (omega arith, omega arith)
small n (x ∷ xs) r v h =
    ⊎_elim (λ l. small_more n x xs l (small n xs (rising_tail x xs r)) v (omega (arith, few_yes n x xs l)))
    (λ l. let e = few_stops n x xs r l in (omega arith, omega arith))
    (cases_lt x n)

large_yes : (n x : ℕ) (xs : List ℕ) → ((v : ℕ) → few n xs ≤ v → v < length xs → n ≤ get_or xs v 0) → (v : ℕ) → suc (few n xs) ≤ v → v < length (x ∷ xs) → n ≤ get_or (x ∷ xs) v 0
large_yes n x xs more zero h k = omega arith
large_yes n x xs more (suc v) h k = more v (omega arith) (omega arith)

large_no : (n x : ℕ) (xs : List ℕ) → Rising (x ∷ xs) → n ≤ x → (v : ℕ) → v < length (x ∷ xs) → n ≤ get_or (x ∷ xs) v 0
large_no n x xs r l zero k = l
large_no n x xs r l (suc v) k = omega (arith, r zero (suc v) (omega arith) k)

pub large : (n : ℕ) (ps : List ℕ) → Rising ps → (v : ℕ) → few n ps ≤ v → v < length ps → n ≤ get_or ps v 0
large n [] r v h k = omega arith
large n (x ∷ xs) r v h k =
    ⊎_elim (λ l. large_yes n x xs (large n xs (rising_tail x xs r)) v (omega (arith, few_yes n x xs l)) k)
    (λ l. large_no n x xs r l v k)
    (cases_lt x n)

-- a pick that the graph has is among the first
pub counted : (n : ℕ) (ps : List ℕ) → Rising ps → (v : ℕ) → v < length ps → get_or ps v 0 < n → v < few n ps
counted n ps r v h k = ⊎_elim (λ l. l) (λ l. omega (arith, large n ps r v l h)) (cases_lt v (few n ps))

pub picked_in : {A : Type 0} (ps : List ℕ) (v : ℕ) (f : ℕ → Option A) → v < length ps → picked ps v f ≡ f (get_or ps v 0)
picked_in ps v f h = cond-true _ _ _ (lt-ltb v (length ps) h)

pub picked_out : {A : Type 0} (ps : List ℕ) (v : ℕ) (f : ℕ → Option A) → length ps ≤ v → picked ps v f ≡ None
picked_out ps v f h = cond-false _ _ _ (le-ltb v (length ps) h)

-- what is picked comes from a pick
pub picked_some : {A : Type 0} (ps : List ℕ) (v : ℕ) (f : ℕ → Option A) → is_some (picked ps v f) ≡ true → (v < length ps) × (is_some (f (get_or ps v 0)) ≡ true)
picked_some ps v f e =
    ⊎_elim
    (λ h. (h, ap is_some (sym (picked_in ps v f h)) ∙ e))
    (λ h. absurd (false≢true (ap is_some (sym (picked_out ps v f h)) ∙ e)))
    (cases_lt v (length ps))

module _ {L : Type 0} (g : Graph L) (ps : List ℕ) (r : Rising ps) (s : Sound g) where
  ends : (u v : ℕ) → is_some (picked ps u (λ a. picked ps v (λ b. g.tie a b))) ≡ true → (u < few g.size ps) × (v < few g.size ps)
  ends u v e =
      let p = picked_some ps u (λ a. picked ps v (λ b. g.tie a b)) e in
      let q = picked_some ps v (λ b. g.tie (get_or ps u 0) b) p.1 in
      let i = s.inside (get_or ps u 0) (get_or ps v 0) q.1 in
      (counted g.size ps r u p.0 i.0, counted g.size ps r v q.0 i.1)

  alone : (v : ℕ) → picked ps v (λ a. picked ps v (λ b. g.tie a b)) ≡ None
  alone v =
      ⊎_elim
      (λ h. picked_in ps v (λ a. picked ps v (λ b. g.tie a b)) h ∙ picked_in ps v (λ b. g.tie (get_or ps v 0) b) h ∙ s.apart (get_or ps v 0))
      (λ h. picked_out ps v (λ a. picked ps v (λ b. g.tie a b)) h)
      (cases_lt v (length ps))

  pub part_sound : Sound (part_graph g ps)
  part_sound = record {
    labelled = λ v h. let p = small g.size ps r v h in ap is_some (picked_in ps v g.label p.0) ∙ s.labelled (get_or ps v 0) p.1;
    bare = λ v h. ⊎_elim
        (λ k. picked_in ps v g.label k ∙ s.bare (get_or ps v 0) (large g.size ps r v h k))
        (λ k. picked_out ps v g.label k)
        (cases_lt v (length ps));
    inside = ends;
    apart = alone;
  }
