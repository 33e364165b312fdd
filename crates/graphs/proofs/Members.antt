-- What is in a list, and lists each of whose entries stands in one relation to all later ones.
use Rattle.std.proofs.Common.{◌≡◌, ℕ, zero, suc, ◌+◌, ◌<◌, ◌≤◌, Bool, true, not, eqb, ◌⊎◌, List, [], ◌∷◌, ◌++◌, map, length, get_or, filter, sym, refl, ap, ◌∙◌, subst, inl, inr, ⊎_elim, arith}
use Rattle.std.proofs.ByRecursion.{All-append, All-get_or, All-from_get_or, all_kept_by, All-weaker, kept_by_passes}
use Rattle.std.proofs.lemmas.Bool.{cond-true, cond-false, cond_both, cases_eq, eq-eqb, ne_eqb, eqb-false, not_from_true, not_from_false, not-true}
use Rattle.std.specs.List.{range_with_len, ContainsAt, flat_map, AllByRecursion}

abbrev pub In : {X : Type 0} → X → List X → Type 0
In x [] = ⊥
In x (y ∷ ys) = (y ≡ x) ⊎ In x ys

-- each entry stands in the relation to every later one
abbrev pub Pairwise : {X : Type 0} → (X → X → Type 0) → List X → Type 0
Pairwise R [] = Unit {0}
Pairwise R (x ∷ xs) = AllByRecursion (R x) xs × Pairwise R xs

module _ {X : Type 0} where
  pub has_from_in : (x : X) (xs : List X) → In x xs → ContainsAt xs x
  has_from_in x [] i = absurd i
  has_from_in x (y ∷ ys) (inl e) = (0, omega arith, λ d. e)
  has_from_in x (y ∷ ys) (inr i) = let h = has_from_in x ys i in (suc h.0, omega arith, h.2)

  pub in_get_or : (xs : List X) (i : ℕ) (d : X) → i < length xs → In (get_or xs i d) xs
  in_get_or [] i d h = omega arith
  in_get_or (x ∷ xs) zero d h = inl refl
  in_get_or (x ∷ xs) (suc i) d h = inr (in_get_or xs i d (omega arith))

  pub in_from_has : (x d : X) (xs : List X) → ContainsAt xs x → In x xs
  in_from_has x d xs h = subst (λ y. In y xs) (h.2 d) (in_get_or xs h.0 d h.1)

  pub all_in : (P : X → Type 0) (x : X) (xs : List X) → AllByRecursion P xs → In x xs → P x
  all_in P x [] h i = absurd i
  all_in P x (y ∷ ys) h (inl e) = subst P e h.0
  all_in P x (y ∷ ys) h (inr i) = all_in P x ys h.1 i

  pub all_from_in : (P : X → Type 0) (xs : List X) → ((x : X) → In x xs → P x) → AllByRecursion P xs
  all_from_in P [] h = tt
  all_from_in P (x ∷ xs) h = (h x (inl refl), all_from_in P xs (λ y i. h y (inr i)))

  pub in_append_left : (x : X) (xs ys : List X) → In x xs → In x (xs ++ ys)
  in_append_left x [] ys i = absurd i
  in_append_left x (y ∷ xs) ys (inl e) = inl e
  in_append_left x (y ∷ xs) ys (inr i) = inr (in_append_left x xs ys i)

  pub in_append_right : (x : X) (xs ys : List X) → In x ys → In x (xs ++ ys)
  in_append_right x [] ys i = i
  in_append_right x (y ∷ xs) ys i = inr (in_append_right x xs ys i)

  pub in_kept : (test : X → Bool) (x : X) (xs : List X) → In x xs → test x ≡ true → In x (filter test xs)
  in_kept test x [] i t = absurd i
  in_kept test x (y ∷ ys) (inl e) t = subst (In x) (sym (cond-true (test y) (y ∷ filter test ys) (filter test ys) (ap test e ∙ t))) (inl e)
  in_kept test x (y ∷ ys) (inr i) t =
      cond_both (test y) (y ∷ filter test ys) (filter test ys) (In x) (λ _. inr (in_kept test x ys i t)) (λ _. in_kept test x ys i t)

  pub kept_all : (test : X → Bool) (xs : List X) → AllByRecursion (λ x. test x ≡ true) xs → filter test xs ≡ xs
  kept_all test [] h = refl
  kept_all test (x ∷ xs) h = cond-true _ _ _ h.0 ∙ ap (λ l. x ∷ l) (kept_all test xs h.1)

  module _ (R : X → X → Type 0) where
    pub pairwise_append : (xs ys : List X) → Pairwise R xs → Pairwise R ys → AllByRecursion (λ x. AllByRecursion (R x) ys) xs → Pairwise R (xs ++ ys)
    pairwise_append [] ys h k l = k
    pairwise_append (x ∷ xs) ys h k l = (All-append (R x) xs ys h.0 l.0, pairwise_append xs ys h.1 k l.1)

    pub pairwise_kept : (test : X → Bool) (xs : List X) → Pairwise R xs → Pairwise R (filter test xs)
    pairwise_kept test [] h = tt
    pairwise_kept test (x ∷ xs) h =
        cond_both (test x) (x ∷ filter test xs) (filter test xs) (Pairwise R)
        (λ _. (all_kept_by test (R x) xs h.0, pairwise_kept test xs h.1))
        (λ _. pairwise_kept test xs h.1)

    pub pairwise_at : (xs : List X) (d : X) → Pairwise R xs → (i j : ℕ) → i < j → j < length xs → R (get_or xs i d) (get_or xs j d)
    pairwise_at [] d h i j l k = let none : ⊥ = omega arith in absurd none
    pairwise_at (x ∷ xs) d h zero zero l k = let none : ⊥ = omega arith in absurd none
    pairwise_at (x ∷ xs) d h zero (suc j) l k = All-get_or (R x) xs j d (omega arith) h.0
    pairwise_at (x ∷ xs) d h (suc i) zero l k = let none : ⊥ = omega arith in absurd none
    pairwise_at (x ∷ xs) d h (suc i) (suc j) l k = pairwise_at xs d h.1 i j (omega arith) (omega arith)

    pub pairwise_from_places : (xs : List X) (d : X) → ((i j : ℕ) → i < j → j < length xs → R (get_or xs i d) (get_or xs j d)) → Pairwise R xs
    pairwise_from_places [] d h = tt
    pairwise_from_places (x ∷ xs) d h =
        (All-from_get_or (R x) xs d (λ i l. h 0 (suc i) (omega arith) (omega arith)), pairwise_from_places xs d (λ i j l k. h (suc i) (suc j) (omega arith) (omega arith)))

module _ {X Y : Type 0} where
  pub in_map : (f : X → Y) (x : X) (xs : List X) → In x xs → In (f x) (map f xs)
  in_map f x [] i = absurd i
  in_map f x (y ∷ ys) (inl e) = inl (ap f e)
  in_map f x (y ∷ ys) (inr i) = inr (in_map f x ys i)

  pub in_joined : (f : X → List Y) (x : X) (y : Y) (xs : List X) → In x xs → In y (f x) → In y (flat_map f xs)
  in_joined f x y [] k i = absurd k
  in_joined f x y (z ∷ zs) (inl e) i = in_append_left y (f z) (flat_map f zs) (subst (λ w. In y (f w)) (sym e) i)
  in_joined f x y (z ∷ zs) (inr k) i = in_append_right y (f z) (flat_map f zs) (in_joined f x y zs k i)

pub in_counting : (a n v : ℕ) → a ≤ v → v < a + n → In v (range_with_len a n)
in_counting a zero v h k = omega arith
in_counting a (suc n) v h k = ⊎_elim (λ e. inl e) (λ ne. inr (in_counting (a + 1) n v (omega arith) (omega arith))) (cases_eq a v)

-- as many different numbers below n as there are have every one of them
abbrev pub Differ : List ℕ → Type 0
Differ = Pairwise (λ x y. x ≡ y → ⊥)

pub cases_in : (v : ℕ) (xs : List ℕ) → In v xs ⊎ AllByRecursion (λ x. v ≡ x → ⊥) xs
cases_in v [] = inr tt
cases_in v (x ∷ xs) =
    ⊎_elim (λ e. inl (inl e)) (λ ne. ⊎_elim (λ i. inl (inr i)) (λ no. inr ((λ e. ne (sym e)), no)) (cases_in v xs)) (cases_eq x v)

abbrev is_not : ℕ → ℕ → Bool
is_not n x = not (eqb x n)

without_one : (n : ℕ) (xs : List ℕ) → Differ xs → length xs ≤ suc (length (filter (is_not n) xs))
without_one n [] h = omega arith
without_one n (x ∷ xs) h =
    ⊎_elim
    (λ (e : x ≡ n).
    let out = cond-false (is_not n x) (x ∷ filter (is_not n) xs) (filter (is_not n) xs) (not_from_true (eqb x n) (eq-eqb x n e)) in
    let all = kept_all (is_not n) xs (All-weaker (λ y. x ≡ y → ⊥) (λ y. is_not n y ≡ true) (λ y d. not_from_false (eqb y n) (ne_eqb y n (λ z. d (e ∙ sym z)))) xs h.0) in
    omega (arith, ap length (out ∙ all)))
    (λ ne.
    let out = cond-true (is_not n x) (x ∷ filter (is_not n) xs) (filter (is_not n) xs) (not_from_false (eqb x n) (ne_eqb x n ne)) in
    omega (arith, ap length out, without_one n xs h.1))
    (cases_eq x n)

pub at_most : (n : ℕ) (xs : List ℕ) → Differ xs → AllByRecursion (λ x. x < n) xs → length xs ≤ n
at_most zero [] h k = omega arith
at_most zero (x ∷ xs) h k = omega (arith, k.0)
at_most (suc n) xs h k =
    let ys = filter (is_not n) xs in
    let low : AllByRecursion (λ x. x < n) ys =
    all_from_in (λ x. x < n) ys (λ x i.
    let under = all_in (λ y. y < suc n) x ys (all_kept_by (is_not n) (λ y. y < suc n) xs k) i in
    let other = eqb-false x n (not-true (eqb x n) (all_in (λ y. is_not n y ≡ true) x ys (kept_by_passes (is_not n) xs) i)) in
    omega arith) in
    omega (arith, at_most n ys (pairwise_kept (λ x y. x ≡ y → ⊥) (is_not n) xs h) low, without_one n xs h)

pub every_one : (n : ℕ) (xs : List ℕ) → Differ xs → AllByRecursion (λ x. x < n) xs → length xs ≡ n → (v : ℕ) → v < n → In v xs
every_one n xs h k l v m =
    ⊎_elim (λ i. i) (λ no. absurd (let many : suc (length xs) ≤ n = at_most n (v ∷ xs) (no, h) (m, k) in let none : ⊥ = omega arith in none)) (cases_in v xs)

pub differ_from_places : (xs : List ℕ) → ((i j : ℕ) → i < length xs → j < length xs → get_or xs i 0 ≡ get_or xs j 0 → i ≡ j) → Differ xs
differ_from_places [] h = tt
differ_from_places (x ∷ xs) h = (
  All-from_get_or (λ y. x ≡ y → ⊥) xs 0 (λ i l e. let same : 0 ≡ suc i = h 0 (suc i) (omega arith) (omega arith) e in omega arith),
  differ_from_places xs (λ i j l k e. let same : suc i ≡ suc j = h (suc i) (suc j) (omega arith) (omega arith) e in omega arith),
)
