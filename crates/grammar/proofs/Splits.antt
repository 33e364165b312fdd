-- The laws of cutting at a separator: the pieces give the text back, and pieces without the separator come back.
use Rattle.std.proofs.Common.{◌≡◌, ℕ, false, eqb, List, [], ◌∷◌, ◌++◌, sym, refl, ap, ◌∙◌, arith}
use Rattle.std.specs.List.{flat_map, AllByRecursion}
use Rattle.std.proofs.lemmas.List.{append-nil}
use Rattle.std.proofs.lemmas.Bool.{cond-true, cond-false, cond_both, eq-eqb, eqb-true}
use Rattle.fields.proofs.Splits.{some_piece}
use Rattle.fields.specs.Split.{split, ahead, ended}
use Rattle.grammar.specs.Reading.{first_of, rest_of}

-- bytes without a separator
abbrev pub Without : ℕ → List ℕ → Type 0
Without s bs = AllByRecursion (λ b. eqb b s ≡ false) bs

-- pieces with the separator between them
abbrev pub rejoined : ℕ → List (List ℕ) → List ℕ
rejoined s ps = first_of ps ++ flat_map (λ p. s ∷ p) (rest_of ps)

ahead_none : (fs : List (List ℕ)) → fs ≡ ahead [] fs
ahead_none [] = refl
ahead_none (f ∷ fs) = refl

ahead_more : (b : ℕ) (xs : List ℕ) (fs : List (List ℕ)) → ahead (b ∷ []) (ahead xs fs) ≡ ahead (b ∷ xs) fs
ahead_more b xs [] = refl
ahead_more b xs (f ∷ fs) = refl

rejoined_ahead : (s b : ℕ) (fs : List (List ℕ)) → ended fs ≡ false → rejoined s (ahead (b ∷ []) fs) ≡ b ∷ rejoined s fs
rejoined_ahead s b [] h = absurd (let o : ◌≡◌ {A = ℕ} 0 1 = cc in omega arith)
rejoined_ahead s b (f ∷ fs) h = refl

rejoined_none : (s : ℕ) (fs : List (List ℕ)) → ended fs ≡ false → rejoined s ([] ∷ fs) ≡ s ∷ rejoined s fs
rejoined_none s [] h = absurd (let o : ◌≡◌ {A = ℕ} 0 1 = cc in omega arith)
rejoined_none s (f ∷ fs) h = refl

-- the pieces joined again are the text
pub rejoined_split : (s : ℕ) (bs : List ℕ) → rejoined s (split s bs) ≡ bs
rejoined_split s [] = refl
rejoined_split s (b ∷ bs) =
    cond_both (eqb b s) ([] ∷ split s bs) (ahead (b ∷ []) (split s bs)) (λ ps. rejoined s ps ≡ b ∷ bs)
    (λ t. rejoined_none s (split s bs) (some_piece s bs) ∙ (λ i. sym (eqb-true b s t) i ∷ rejoined_split s bs i))
    (λ f. rejoined_ahead s b (split s bs) (some_piece s bs) ∙ ap (λ cs. b ∷ cs) (rejoined_split s bs))

split_ahead : (s : ℕ) (xs ys : List ℕ) → Without s xs → split s (xs ++ ys) ≡ ahead xs (split s ys)
split_ahead s [] ys h = ahead_none (split s ys)
split_ahead s (x ∷ xs) ys h =
    cond-false (eqb x s) _ _ h.0 ∙ ap (ahead (x ∷ [])) (split_ahead s xs ys h.1) ∙ ahead_more x xs (split s ys)

-- bytes up to the first separator are the first piece
pub split_at_lem : (s : ℕ) (xs ys : List ℕ) → Without s xs → split s (xs ++ s ∷ ys) ≡ xs ∷ split s ys
split_at_lem s xs ys h =
    split_ahead s xs (s ∷ ys) h ∙ ap (ahead xs) (cond-true (eqb s s) _ _ (eq-eqb s s refl)) ∙ ap (λ p. p ∷ split s ys) (append-nil xs)

-- bytes without a separator are one piece
pub split_whole : (s : ℕ) (xs : List ℕ) → Without s xs → split s xs ≡ xs ∷ []
split_whole s xs h = ap (split s) (sym (append-nil xs)) ∙ split_ahead s xs [] h ∙ ap (λ p. p ∷ []) (append-nil xs)
