-- How long written numbers are, one after another.
use Rattle.std.proofs.Common.{◌≡◌, ℕ, ◌+◌, ◌<◌, List, [], ◌∷◌, ◌++◌, length, get_or, take, drop, sym, ap, ◌∙◌, arith}
use Rattle.std.proofs.lemmas.List.{at_drop_more, length-append, take_more, flat_map_more}
use Rattle.fields.specs.Numbers.{numeral}
use Rattle.fields.specs.Lines.{numbers_text}

first_size : (n : ℕ) (ns : List ℕ) → length (numbers_text (n ∷ ns)) ≡ 1 + length (numeral n) + length (numbers_text ns)
first_size n ns = omega (arith, length-append (9 ∷ numeral n) (numbers_text ns))

-- the next number's part of what is left
pub size_more : (ns : List ℕ) (i : ℕ) → i < length ns
    → length (numbers_text (drop i ns)) ≡ 1 + length (numeral (get_or ns i 0)) + length (numbers_text (drop (i + 1) ns))
size_more ns i h = at_drop_more (λ l. length (numbers_text l)) ns i 0 h ∙ first_size (get_or ns i 0) (drop (i + 1) ns)

-- what is written once the next number is
pub text_more : (ns : List ℕ) (i : ℕ) → i < length ns
    → numbers_text (take (i + 1) ns) ≡ numbers_text (take i ns) ++ 9 ∷ numeral (get_or ns i 0)
text_more ns i h = ap numbers_text (take_more ns i 0 h) ∙ sym (flat_map_more (λ n. 9 ∷ numeral n) [] (take i ns) (get_or ns i 0))
