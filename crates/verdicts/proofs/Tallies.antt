-- Counting by kind, one label after another.
use Rattle.std.proofs.Common.{◌≡◌, ℕ, ◌+◌, ◌<◌, ◌≤◌, cond, eqb, List, [], ◌∷◌, ◌++◌, length, get_or, take, set, sym, refl, ap, ◌∙◌, ⊎_elim, arith}
use Rattle.std.proofs.lemmas.List.{take_more, get_or-set_same, get_or-set_other, length-set, length-take}
use Rattle.std.proofs.lemmas.Bool.{cond-true, cond-false, cond_both, cases_eq, eq-eqb, ne_eqb}
use Rattle.graphs.specs.declared.Pay.{Pay}
use Rattle.verdicts.specs.Tallying.{kind_count}

count_push : (k : ℕ) (ps : List Pay) (p : Pay) → kind_count k (ps ++ p ∷ []) ≡ kind_count k ps + cond (eqb p.kind k) 1 0
count_push k [] p = omega arith
count_push k (q ∷ ps) p = omega (arith, count_push k ps p)

pub count_le : (k : ℕ) (ps : List Pay) → kind_count k ps ≤ length ps
count_le k [] = omega arith
count_le k (p ∷ ps) = let h = count_le k ps in cond_both {A = ℕ} (eqb p.kind k) 1 0 (λ n. n + kind_count k ps ≤ length (p ∷ ps)) (λ _. omega arith) (λ _. omega arith)

module _ (cs : List ℕ) (vs : List Pay) (i : ℕ) (p : Pay) (here : i < length vs) (at : p ≡ get_or vs i p) (inv : (k : ℕ) → k < length cs → get_or cs k 0 ≡ kind_count k (take i vs)) where
  one_more : (k : ℕ) → kind_count k (take (i + 1) vs) ≡ kind_count k (take i vs) + cond (eqb p.kind k) 1 0
  one_more k = ap (kind_count k) (take_more vs i p here ∙ ap (λ q. take i vs ++ q ∷ []) (sym at)) ∙ count_push k (take i vs) p

  same_kind_lem : (k : ℕ) → p.kind ≡ k → kind_count k (take (i + 1) vs) ≡ kind_count k (take i vs) + 1
  same_kind_lem k e = one_more k ∙ ap (λ n. kind_count k (take i vs) + n) (cond-true (eqb p.kind k) 1 0 (eq-eqb _ _ e))

  other_kind : (k : ℕ) → (p.kind ≡ k → ⊥) → kind_count k (take (i + 1) vs) ≡ kind_count k (take i vs)
  other_kind k n = omega (arith, one_more k, cond-false {A = ℕ} (eqb p.kind k) 1 0 (ne_eqb _ _ n))

  pub counted : p.kind < length cs → (k : ℕ) → k < length (set cs p.kind (get_or cs p.kind 0 + 1)) → get_or (set cs p.kind (get_or cs p.kind 0 + 1)) k 0 ≡ kind_count k (take (i + 1) vs)
  counted h k l = ⊎_elim
      (λ e.
      ap (λ j. get_or (set cs p.kind (get_or cs p.kind 0 + 1)) j 0) (sym e)
      ∙ get_or-set_same cs p.kind (get_or cs p.kind 0 + 1) 0 h
      ∙ ap (λ n. n + 1) (inv p.kind h)
      ∙ sym (same_kind_lem p.kind refl)
      ∙ ap (λ j. kind_count j (take (i + 1) vs)) e)
      (λ n.
      get_or-set_other cs p.kind k (get_or cs p.kind 0 + 1) 0 (λ e. n (sym e))
      ∙ inv k (omega (arith, length-set cs p.kind (get_or cs p.kind 0 + 1)))
      ∙ sym (other_kind k n))
      (cases_eq p.kind k)

  pub passed : length cs ≤ p.kind → (k : ℕ) → k < length cs → get_or cs k 0 ≡ kind_count k (take (i + 1) vs)
  passed h k l = inv k l ∙ sym (other_kind k (λ e. omega arith))

  pub small : (k : ℕ) → k < length cs → get_or cs k 0 ≤ i
  small k l = omega (arith, inv k l, count_le k (take i vs), length-take i vs)
