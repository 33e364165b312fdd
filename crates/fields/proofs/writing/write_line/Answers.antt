use Rattle.std.proofs.Common.{◌≡◌, ℕ, ◌+◌, ◌-◌, ◌≤◌, true, leb, List, [], ◌∷◌, length, take, drop, set, sym, refl, ap, ◌∙◌, arith}
use borrow.Rule.Slice.PartMut.{put_mid}
use Rattle.std.proofs.lemmas.List.{length_push}
use Rattle.std.proofs.lemmas.Bool.{cond-true, le-leb, leb-true}
use Rattle.fields.specs.Lines.{numbers_text, line_text, overlaid, overlaid_in}
use Rattle.fields.proofs.Overlaid.{overlaid_push, overlaid_part}
use Rattle.fields.proofs.writing.write_line.Goals as goal

size : (l : ℕ) (ns : List ℕ) → length (line_text l ns) ≡ length (numbers_text ns) + 2
size l ns = omega (arith, length_push (numbers_text ns) 10)

-- the buffer once the letter, the numbers and the line feed are put into it
module _ (l : ℕ) (ns ys t : List ℕ) (k : ℕ) (room : length (numbers_text ns) + 2 ≤ length ys) (count : k ≡ length (numbers_text ns)) where
  abbrev s : List ℕ
  s = set ys 0 l

  numbered : t ≡ overlaid (numbers_text ns) (take (length s - 1) (drop 1 s)) → put_mid 1 (length s - 1) s t ≡ overlaid (l ∷ numbers_text ns) ys
  numbered e =
      ap (put_mid 1 (length s - 1) s) e
      ∙ overlaid_part s (l ∷ []) (numbers_text ns) ys 1 (overlaid_push [] ys l 0 refl (omega arith)) refl

  full : t ≡ overlaid (numbers_text ns) (take (length s - 1) (drop 1 s)) → set (put_mid 1 (length s - 1) s t) (1 + k) 10 ≡ overlaid_in (line_text l ns) ys
  full e =
      let fits : leb (length (line_text l ns)) (length ys) ≡ true = le-leb _ _ (omega (arith, size l ns)) in
      let at : length (l ∷ numbers_text ns) ≡ 1 + k = omega arith in
      ap (λ z. set z (1 + k) 10) (numbered e) ∙ overlaid_push (l ∷ numbers_text ns) ys 10 (1 + k) at (omega arith) ∙ sym (cond-true _ _ _ fits)

enough : (n m : ℕ) → 2 ≤ m → leb n (m - 2) ≡ true → n + 2 ≤ m
enough n m h e = omega (arith, leb-true _ _ e)

pub returns-clause-after : goal.returns-clause-after
returns-clause-after c =
    let room = enough (length (numbers_text c.args.numbers.now)) (length c.args.buffer.now) (omega arith) (sym c.if-not-numbers_fit.ensures) in
    full c.args.letter c.args.numbers.now c.args.buffer.now c.put_numbers-end.new.space c.put_numbers-end.result room
    c.put_numbers-end.ensures.count c.put_numbers-end.ensures.after
