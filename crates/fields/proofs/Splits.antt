-- How a text is cut at its first separator, and how many pieces it has.
use Rattle.std.proofs.Common.{◌≡◌, ◌≢◌, ℕ, zero, suc, ◌+◌, ◌^◌, ◌<◌, ◌≤◌, Some, None, Option, MatchOption, Bor, false, eqb, List, [], ◌∷◌, length, take, drop, refl, ap, ◌∙◌, arith}
use native.Mathlib.Numerals.{unary_clauses}
use Rattle.std.specs.List.{AllWithin, HoldsAt}
use Rattle.std.specs.Iterator.{AlwaysYields}
use Rattle.std.specs.Option.{ForSome}
use Rattle.std.below.core.specs.declared.int.usize.TheConstants.{MAX}
use Rattle.std.proofs.lemmas.Iterator.{YieldsList}
use Rattle.std.proofs.lemmas.Bool.{cond-true, cond-false, cond_both, eq-eqb, ne_eqb}
use Rattle.fields.specs.declared.pieces.Pieces.{Pieces}
use Rattle.fields.specs.Split.{split, ahead, ended, pieces_in, left, Handed}

-- the first piece ends before the first separator, and the others stand after that
cut_at : (s : ℕ) (bs : List ℕ) (i : ℕ) → i < length bs → HoldsAt (λ b. b ≡ s) bs i → AllWithin (λ b. b ≢ s) bs 0 i
    → split s bs ≡ take i bs ∷ split s (drop (i + 1) bs)
cut_at s [] i h e n = absurd (omega arith)
cut_at s (b ∷ bs) zero h e n = cond-true (eqb b s) _ _ (eq-eqb b s (e 0))
cut_at s (b ∷ bs) (suc i) h e n =
    simp unary_clauses (
    cond-false (eqb b s) _ _ (ne_eqb b s (n 0 0 (omega arith) (omega arith)))
    ∙ ap (ahead (b ∷ [])) (simp unary_clauses at (cut_at s bs i (omega arith) e (λ k d z l. n (suc k) d (omega arith) (omega arith))))
    )

-- without a separator the text is the only piece
cut_none : (s : ℕ) (bs : List ℕ) → AllWithin (λ b. b ≢ s) bs 0 (length bs) → split s bs ≡ bs ∷ []
cut_none s [] n = refl
cut_none s (b ∷ bs) n =
    cond-false (eqb b s) _ _ (ne_eqb b s (n 0 0 (omega arith) (omega arith)))
    ∙ ap (ahead (b ∷ [])) (cut_none s bs (λ k d z l. n (suc k) d (omega arith) (omega arith)))

-- so the first place that has the separator says what is cut off, and what is left
abbrev pub CutBy : ℕ → List ℕ → Option ℕ → Type 0
CutBy s bs None = split s bs ≡ bs ∷ []
CutBy s bs (Some i) = split s bs ≡ take i bs ∷ split s (drop (i + 1) bs)

pub cut_by : (s : ℕ) (bs : List ℕ) (r : Option ℕ)
    → MatchOption r (AllWithin (λ b. b ≢ s) bs 0 (length bs)) (λ i. (i < length bs) × HoldsAt (λ b. b ≡ s) bs i × AllWithin (λ b. b ≢ s) bs 0 i)
    → CutBy s bs r
cut_by s bs None n = cut_none s bs n
cut_by s bs (Some i) h = cut_at s bs i h.0 h.1 h.2

-- a text has at least one piece
ahead_goes_on : (xs : List ℕ) (ps : List (List ℕ)) → ended ps ≡ false → ended (ahead xs ps) ≡ false
ahead_goes_on xs [] h = h
ahead_goes_on xs (p ∷ ps) h = refl

pub some_piece : (s : ℕ) (bs : List ℕ) → ended (split s bs) ≡ false
some_piece s [] = refl
some_piece s (b ∷ bs) = cond_both (eqb b s) ([] ∷ split s bs) (ahead (b ∷ []) (split s bs)) (λ ps. ended ps ≡ false) (λ _. refl) (λ _. ahead_goes_on (b ∷ []) (split s bs) (some_piece s bs))

length-ahead : (xs : List ℕ) (ps : List (List ℕ)) → length (ahead xs ps) ≡ length ps
length-ahead xs [] = refl
length-ahead xs (p ∷ ps) = refl

-- each piece but the first comes after a separator
pub few_pieces : (s : ℕ) (bs : List ℕ) → length (split s bs) ≤ length bs + 1
few_pieces s [] = omega arith
few_pieces s (b ∷ bs) =
    let h = few_pieces s bs in
    cond_both (eqb b s) ([] ∷ split s bs) (ahead (b ∷ []) (split s bs)) (λ ps. length ps ≤ length (b ∷ bs) + 1)
    (λ _. omega arith) (λ _. omega (arith, length-ahead (b ∷ []) (split s bs)))

-- the bytes that an iterator hands out are what it has left
hands_out : (r : Pieces) (ps : List (List ℕ)) → left r ≡ ps → AlwaysYields Handed (λ p. p.bytes.now) r ps
hands_out r [] e = λ p q h. absurd (let z : ◌≡◌ {A = ℕ} 0 1 = cc (h.0, e) in omega arith)
hands_out r (b ∷ bs) e = (λ q h. absurd (let z : ◌≡◌ {A = ℕ} 0 1 = cc (h.0, e) in omega arith), λ p q h. (cc (h.0, e), hands_out q bs (cc (h.0, e))))

pub hands_out_left : (r : Pieces) (ps : List (List ℕ)) → left r ≡ ps → YieldsList Handed (λ p. p.bytes.now) r ps
hands_out_left r ps e = record { runs = hands_out r ps e }

few_in : (s count : ℕ) (rest : Option (Bor (List ℕ))) → ForSome rest (λ bytes. count + length bytes.now + 1 < MAX) → length (pieces_in s rest) < 2 ^ 64
few_in s count None h = omega arith
few_in s count (Some bytes) h = omega (arith, h bytes refl, few_pieces s bytes.now)

pub few_left : (r : Pieces) → length (left r) < 2 ^ 64
few_left r = few_in r.separator r.count r.rest r.few_left
