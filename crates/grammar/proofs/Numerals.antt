-- Numerals have no tab and no line feed, so a line of numbers is cut into just these.
use Rattle.std.proofs.Common.{◌≡◌, ℕ, ◌+◌, ◌-◌, ◌*◌, ◌^◌, ◌<◌, false, eqb, List, [], ◌∷◌, ◌++◌, map, Some, None, Option, sym, refl, ap, ◌∙◌, ⊎_elim, arith}
use Rattle.std.specs.List.{flat_map, AllByRecursion}
use Rattle.std.proofs.lemmas.List.{append_assoc, append-nil}
use Rattle.std.proofs.ByRecursion.{All-append}
use Rattle.std.proofs.lemmas.Bool.{cond-true, cond-false, cases_Bool, and_parts, ne_eqb, leb-true}
use Rattle.fields.specs.Numbers.{numeral, number_of, read_on, is_digit, shapely}
use Rattle.fields.specs.Lines.{numbers_text, line_text}
use Rattle.fields.specs.Split.{split}
use Rattle.fields.proofs.Decimals.{written_number}
use Rattle.grammar.proofs.Splits.{Without, split_at_lem, split_whole}

none_some : {X : Type 0} (x : X) → ◌≡◌ {A = Option X} None (Some x) → ⊥
none_some x e = let o : ◌≡◌ {A = ℕ} 0 1 = cc in omega arith

-- bytes that are read as digits lie above any byte below 48
read_without : (s v : ℕ) (bs : List ℕ) (n : ℕ) → s < 48 → read_on v bs ≡ Some n → Without s bs
read_without s v [] n h e = tt
read_without s v (b ∷ bs) n h e = ⊎_elim
    (λ t.
    let low = leb-true 48 b (and_parts _ _ t).0 in
    (ne_eqb b s (λ q. omega arith), read_without s (v * 10 + (b - 48)) bs n h (sym (cond-true (is_digit b) _ _ t) ∙ e)))
    (λ f. absurd (none_some n (sym (cond-false (is_digit b) _ _ f) ∙ e)))
    (cases_Bool (is_digit b))

number_without : (s : ℕ) (bs : List ℕ) (n : ℕ) → s < 48 → number_of bs ≡ Some n → Without s bs
number_without s bs n h e = ⊎_elim
    (λ t. read_without s 0 bs n h (sym (cond-true (shapely bs) _ _ t) ∙ e))
    (λ f. absurd (none_some n (sym (cond-false (shapely bs) _ _ f) ∙ e)))
    (cases_Bool (shapely bs))

-- numbers of at most nine digits
abbrev pub Small : ℕ → Type 0
Small n = n < 10 ^ 9

numeral_without : (s n : ℕ) → s < 48 → Small n → Without s (numeral n)
numeral_without s n h w = number_without s (numeral n) n h (written_number n w)

numbers_without : (ns : List ℕ) → AllByRecursion Small ns → Without 10 (numbers_text ns)
numbers_without [] h = tt
numbers_without (n ∷ ns) h =
    (ne_eqb 9 10 (λ q. omega arith), All-append (λ b. eqb b 10 ≡ false) (numeral n) (numbers_text ns) (numeral_without 10 n (omega arith) h.0) (numbers_without ns h.1))

fields_split : (xs : List ℕ) (ns : List ℕ) → Without 9 xs → AllByRecursion Small ns → split 9 (xs ++ numbers_text ns) ≡ xs ∷ map numeral ns
fields_split xs [] w h = ap (split 9) (append-nil xs) ∙ split_whole 9 xs w
fields_split xs (n ∷ ns) w h =
    split_at_lem 9 xs (numeral n ++ numbers_text ns) w ∙ ap (λ ps. xs ∷ ps) (fields_split (numeral n) ns (numeral_without 9 n (omega arith) h.0) h.1)

-- a letter and numbers are cut into these
pub line_split : (letter : ℕ) (ns : List ℕ) → 48 < letter → AllByRecursion Small ns → split 9 (letter ∷ numbers_text ns) ≡ (letter ∷ []) ∷ map numeral ns
line_split letter ns l h = fields_split (letter ∷ []) ns (ne_eqb letter 9 (λ q. omega arith), tt) h

-- a line stands before what follows it
pub text_split : (letter : ℕ) (ns : List ℕ) (rest : List ℕ) → 48 < letter → AllByRecursion Small ns
    → split 10 (line_text letter ns ++ rest) ≡ (letter ∷ numbers_text ns) ∷ split 10 rest
text_split letter ns rest l h =
    ap (λ bs. split 10 (letter ∷ bs)) (append_assoc (numbers_text ns) (10 ∷ []) rest)
    ∙ split_at_lem 10 (letter ∷ numbers_text ns) rest (ne_eqb letter 10 (λ q. omega arith), numbers_without ns h)

-- numbers as fields, with a tab before each
pub numbers_fields : (ns : List ℕ) → flat_map (λ p. 9 ∷ p) (map numeral ns) ≡ numbers_text ns
numbers_fields [] = refl
numbers_fields (n ∷ ns) = ap (λ bs. (9 ∷ numeral n) ++ bs) (numbers_fields ns)
