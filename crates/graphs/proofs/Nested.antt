-- The part of a part of a graph is a part of that graph.
use Rattle.std.proofs.Common.{◌≡◌, ℕ, zero, suc, ◌<◌, ◌≤◌, Bool, true, false, cond, ltb, List, [], ◌∷◌, map, length, get_or, None, Option, sym, refl, ap, ◌∙◌, inl, inr, ⊎_elim, arith}
use Rattle.std.proofs.lemmas.List.{get_or-map, length-map}
use Rattle.std.proofs.ByRecursion.{kept_by_passes}
use Rattle.std.proofs.lemmas.Bool.{cases_lt, cond-true, cond-false, lt-ltb, le-ltb, ltb-true}
use Rattle.graphs.specs.Graphs.{Graph}
use Rattle.graphs.specs.Parts.{Rising, below, picked, part_graph, through, PartOfPart}
use Rattle.graphs.proofs.Members.{In, all_in}
use Rattle.graphs.proofs.Parts.{few, few_yes, few_stops, rising_tail, small, large, picked_in, picked_out}

few_most : (n : ℕ) (xs : List ℕ) → few n xs ≤ length xs
few_most n [] = omega arith
few_most n (x ∷ xs) =
    ⊎_elim
    (λ h. omega (arith, ap length (cond-true (ltb x n) (x ∷ below n xs) (below n xs) (lt-ltb x n h)), few_most n xs))
    (λ h. omega (arith, ap length (cond-false (ltb x n) (x ∷ below n xs) (below n xs) (le-ltb x n h)), few_most n xs))
    (cases_lt x n)

below_in : (n x : ℕ) (xs : List ℕ) → x < n → below n (x ∷ xs) ≡ x ∷ below n xs
below_in n x xs h = cond-true (ltb x n) (x ∷ below n xs) (below n xs) (lt-ltb x n h)

below_out : (n x : ℕ) (xs : List ℕ) → n ≤ x → below n (x ∷ xs) ≡ below n xs
below_out n x xs h = cond-false (ltb x n) (x ∷ below n xs) (below n xs) (le-ltb x n h)

-- what is below m goes on to be below n
below_below : (n m : ℕ) → n ≤ m → (xs : List ℕ) → below n (below m xs) ≡ below n xs
below_below n m l [] = refl
below_below n m l (x ∷ xs) =
    ⊎_elim
    (λ h. ap (below n) (below_in m x xs h) ∙ ⊎_elim
    (λ k. below_in n x (below m xs) k ∙ ap (λ r. x ∷ r) (below_below n m l xs) ∙ sym (below_in n x xs k))
    (λ k. below_out n x (below m xs) k ∙ below_below n m l xs ∙ sym (below_out n x xs k))
    (cases_lt x n))
    (λ h. ap (below n) (below_out m x xs h) ∙ below_below n m l xs ∙ sym (below_out n x xs (omega arith)))
    (cases_lt x m)

-- of rising numbers those below m are the first
below_first_more : (m x : ℕ) (xs : List ℕ) → ((i : ℕ) → i < few m xs → get_or (below m xs) i 0 ≡ get_or xs i 0) → (i : ℕ) → i < suc (few m xs)
    → get_or (x ∷ below m xs) i 0 ≡ get_or (x ∷ xs) i 0
below_first_more m x xs more zero h = refl
below_first_more m x xs more (suc i) h = more i (omega arith)

below_first : (m : ℕ) (xs : List ℕ) → Rising xs → (i : ℕ) → i < few m xs → get_or (below m xs) i 0 ≡ get_or xs i 0
below_first m [] r i h = refl
below_first m (x ∷ xs) r i h =
    ⊎_elim
    (λ l. ap (λ ys. get_or ys i 0) (below_in m x xs l) ∙ below_first_more m x xs (below_first m xs (rising_tail x xs r)) i (omega (arith, few_yes m x xs l)))
    (λ l. let none : ⊥ = omega (arith, few_stops m x xs r l) in absurd none)
    (cases_lt x m)

-- two questions about picks may be asked in either order
swapped : {A : Type 0} (b c : Bool) (o : Option A) → cond b (cond c o None) None ≡ cond c (cond b o None) None
swapped true true o = refl
swapped true false o = refl
swapped false true o = refl
swapped false false o = refl

module _ (ps qs : List ℕ) (rp : Rising ps) (rq : Rising qs) where
  abbrev m : ℕ
  m = length ps

  abbrev rs : List ℕ
  rs = through ps qs

  long : length rs ≡ few m qs
  long = length-map (below m qs) (λ q. get_or ps q 0)

  at : (i : ℕ) → i < few m qs → get_or rs i 0 ≡ get_or ps (get_or qs i 0) 0
  at i h = get_or-map (λ q. get_or ps q 0) (below m qs) i 0 0 h ∙ ap (λ q. get_or ps q 0) (below_first m qs rq i h)

  -- a pick of a pick
  twice : {A : Type 0} (i : ℕ) (answer : ℕ → Option A) → picked qs i (λ q. picked ps q answer) ≡ picked rs i answer
  twice i answer =
      ⊎_elim
      (λ h.
      let s = small m qs rq i h in
      picked_in qs i (λ q. picked ps q answer) s.0 ∙ picked_in ps (get_or qs i 0) answer s.1
      ∙ sym (picked_in rs i answer (omega (arith, long)) ∙ ap answer (at i h)))
      (λ h. ⊎_elim
      (λ k. picked_in qs i (λ q. picked ps q answer) k ∙ picked_out ps (get_or qs i 0) answer (large m qs rq i h k) ∙ sym (picked_out rs i answer (omega (arith, long))))
      (λ k. picked_out qs i (λ q. picked ps q answer) k ∙ sym (picked_out rs i answer (omega (arith, long))))
      (cases_lt i (length qs)))
      (cases_lt i (few m qs))

  -- as many of the picks are in the graph either way
  same_count : (n : ℕ) (ks : List ℕ) → ((k : ℕ) → In k ks → k < m) → few (few n ps) ks ≡ few n (map (λ q. get_or ps q 0) ks)
  same_count n [] h = refl
  same_count n (k ∷ ks) h =
      let rest = same_count n ks (λ j i. h j (inr i)) in
      ⊎_elim
      (λ l.
      let s = small n ps rp k l in
      ap length (below_in (few n ps) k ks l) ∙ ap suc rest ∙ sym (ap length (below_in n (get_or ps k 0) (map (λ q. get_or ps q 0) ks) s.1)))
      (λ l.
      ap length (below_out (few n ps) k ks l) ∙ rest
      ∙ sym (ap length (below_out n (get_or ps k 0) (map (λ q. get_or ps q 0) ks) (large n ps rp k l (h k (inl refl))))))
      (cases_lt k (few n ps))

  all_below : (k : ℕ) → In k (below m qs) → k < m
  all_below k i = ltb-true k m (all_in (λ q. ltb q m ≡ true) k (below m qs) (kept_by_passes (λ q. ltb q m) qs) i)

  pub through_rising : Rising rs
  through_rising i j h k =
      let l : j < few m qs = omega (arith, long) in
      let n : i < few m qs = omega arith in
      let sj = small m qs rq j l in
      let up = rp (get_or qs i 0) (get_or qs j 0) (rq i j h sj.0) sj.1 in
      omega (arith, at i n, at j l)

  module _ {L : Type 0} (g : Graph L) where
    size : few (few g.size ps) qs ≡ few g.size rs
    size =
        ap length (sym (below_below (few g.size ps) m (few_most g.size ps) qs))
        ∙ same_count g.size (below m qs) all_below

    tie : (i j : ℕ) → (part_graph (part_graph g ps) qs).tie i j ≡ (part_graph g rs).tie i j
    tie i j =
        (λ t. picked qs i (λ a. swapped (ltb j (length qs)) (ltb a (length ps)) (picked ps (get_or qs j 0) (λ v. g.tie (get_or ps a 0) v)) t))
        ∙ (λ t. picked qs i (λ a. picked ps a (λ u. twice j (λ v. g.tie u v) t)))
        ∙ twice i (λ u. picked rs j (λ v. g.tie u v))

    pub part_of_part : PartOfPart g ps qs
    part_of_part = record {
      same = λ t. record { size = size t; label = λ i. twice i g.label t; tie = λ i j. tie i j t };
      rising = through_rising;
    }
