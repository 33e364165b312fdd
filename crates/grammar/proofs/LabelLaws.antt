-- A label is read from fields exactly where they are the numerals of a good label's numbers.
use Rattle.std.proofs.Common.{◌≡◌, ℕ, suc, ◌+◌, ◌^◌, ◌<◌, ◌≤◌, true, List, [], ◌∷◌, map, length, IfSome, Some, None, Ok, Option, sym, refl, ap, ◌∙◌, arith}
use Rattle.std.specs.List.{AllByRecursion}
use Rattle.std.proofs.lemmas.List.{nil_from_length}
use Rattle.std.proofs.lemmas.Bool.{cond-true, and_parts, ltb-true}
use Rattle.fields.specs.Numbers.{numeral, number_of}
use Rattle.fields.proofs.Decimals.{number_written, written_number}
use Rattle.faults.specs.declared.FieldTrouble.{FieldTrouble}
use Rattle.faults.specs.declared.FieldTrouble.TheVariants.{OutOfRange}
use Rattle.grammar.specs.declared.records.Range.{Range}
use Rattle.grammar.specs.Labels.{Form, Faithful, inside, width, numbers_of}
use Rattle.grammar.specs.Reading.{and_then, judged, number_in, second_in, label_in, first_of, rest_of}
use Rattle.grammar.specs.Writing.{GoodLabel}
use Rattle.grammar.proofs.Numerals.{Small}
use Rattle.grammar.proofs.Steps.{err_ok, same_ok, then_ok, cond_ok, fields_more}

module _ (k : ℕ) (range : Range) (trouble : FieldTrouble) where
  judged_ok : (o : Option ℕ) (n : ℕ) → judged k range trouble o ≡ Ok n → (o ≡ Some n) × (inside range n ≡ true)
  judged_ok None n h = absurd (err_ok _ n h)
  judged_ok (Some m) n h =
      let p = cond_ok (inside range m) (Ok m) _ n h in let e : m ≡ n = same_ok m n p.1 in (ap (λ x. Some x) e, ap (inside range) (sym e) ∙ p.0)

  -- a field that is taken is the numeral of a number in the range
  pub number_ok : (bytes : List ℕ) (n : ℕ) → number_in k range trouble bytes ≡ Ok n → (bytes ≡ numeral n) × (inside range n ≡ true)
  number_ok bytes n h = let p = judged_ok (number_of bytes) n h in ((number_written bytes n p.0).1, p.1)

  pub number_in_lem : (n : ℕ) → Small n → inside range n ≡ true → number_in k range trouble (numeral n) ≡ Ok n
  number_in_lem n w h = ap (judged k range trouble) (written_number n w) ∙ cond-true (inside range n) _ _ h

pub inside_end : (range : Range) (n : ℕ) → inside range n ≡ true → n < range.end
inside_end range n h = ltb-true _ _ (and_parts _ _ h).1

-- the count and the numbers of a label, by its second field
abbrev width_by : Option Range → ℕ
width_by o = elim o [ None ↦ 1 | Some r ↦ 2 ]

abbrev numbers_by : {L : Type 0} → Option Range → Form L → L → List ℕ
numbers_by o f l = elim o [ None ↦ f.one l ∷ [] | Some r ↦ f.one l ∷ f.two l ∷ [] ]

width_some : (o : Option Range) → (n : ℕ) × (width_by o ≡ suc n)
width_some None = (0, refl)
width_some (Some r) = (1, refl)

module _ {L : Type 0} (form : Form L) where
  abbrev SecondGood : Option Range → L → Type 0
  SecondGood o l = IfSome o (λ range. inside range (form.two l) ≡ true)

  second_ok : (o : Option Range) (k a : ℕ) (fs : List (List ℕ)) (l : L) → ((a b : ℕ) → form.one (form.make a b) ≡ a)
      → ((a b : ℕ) → IfSome o (λ _. form.two (form.make a b) ≡ b)) → suc (length fs) ≡ width_by o → second_in form o k a fs ≡ Ok l
      → (form.one l ≡ a) × (numeral a ∷ fs ≡ map numeral (numbers_by o form l)) × SecondGood o l
  second_ok None k a fs l ones twos n h =
      let e : form.one l ≡ a = ap form.one (sym (same_ok _ l h)) ∙ ones a 0 in
      (e, (λ i. numeral (sym e i) ∷ nil_from_length fs (omega arith) i), tt)
  second_ok (Some range) k a fs l ones twos n h =
      let p = then_ok (λ e. e) (number_in (k + 1) range OutOfRange (first_of fs)) (λ b. Ok (form.make a b)) l h in
      let q = number_ok (k + 1) range OutOfRange (first_of fs) p.0 p.1 in
      let f = fields_more 0 fs (omega arith) in
      let made = sym (same_ok _ l p.2) in
      let e : form.one l ≡ a = ap form.one made ∙ ones a p.0 in
      let t : form.two l ≡ p.0 = ap form.two made ∙ twos a p.0 in
      let whole : fs ≡ numeral (form.two l) ∷ [] = f.0 ∙ (λ i. (q.0 ∙ ap numeral (sym t)) i ∷ nil_from_length (rest_of fs) f.1 i) in
      (e, (λ i. numeral (sym e i) ∷ whole i), ap (inside range) t ∙ q.1)

  -- what is read as a label
  pub label_ok : Faithful form → (k : ℕ) (fs : List (List ℕ)) (l : L) → length fs ≡ width form → label_in form k fs ≡ Ok l
      → (fs ≡ map numeral (numbers_of form l)) × GoodLabel form l
  label_ok faith k fs l n h =
      let w = width_some form.second in
      let f = fields_more w.0 fs (n ∙ w.1) in
      let p = then_ok (λ e. e) (number_in k form.first OutOfRange (first_of fs)) (λ a. second_in form form.second k a (rest_of fs)) l h in
      let q = number_ok k form.first OutOfRange (first_of fs) p.0 p.1 in
      let many : suc (length (rest_of fs)) ≡ width_by form.second = ap suc f.1 ∙ sym w.1 in
      let r = second_ok form.second k p.0 (rest_of fs) l faith.ones faith.twos many p.2 in
      (f.0 ∙ ap (λ b. b ∷ rest_of fs) q.0 ∙ r.1, record { first = ap (inside form.first) r.0 ∙ q.1; second = r.2 })

  second_in_lem : (o : Option Range) (k : ℕ) (l : L) → form.make (form.one l) (form.two l) ≡ l
      → (o ≡ None → (a b c : ℕ) → form.make a b ≡ form.make a c) → Small (form.one l) → inside form.first (form.one l) ≡ true
      → IfSome o (λ r. r.end ≤ 10 ^ 9) → SecondGood o l
      → and_then (λ e. e) (number_in k form.first OutOfRange (first_of (map numeral (numbers_by o form l)))) (λ a. second_in form o k a (rest_of (map numeral (numbers_by o form l)))) ≡ Ok l
  second_in_lem None k l whole alone small good both second =
      ap (λ r. and_then (λ e. e) r (λ a. Ok (form.make a 0))) (number_in_lem k form.first OutOfRange (form.one l) small good)
      ∙ ap (λ x. Ok x) (alone refl (form.one l) 0 (form.two l) ∙ whole)
  second_in_lem (Some range) k l whole alone small good both second =
      let below : Small (form.two l) = omega (arith, inside_end range (form.two l) second) in
      ap (λ r. and_then (λ e. e) r (λ a. and_then (λ e. e) (number_in (k + 1) range OutOfRange (numeral (form.two l))) (λ b. Ok (form.make a b)))) (number_in_lem k form.first OutOfRange (form.one l) small good)
      ∙ ap (λ r. and_then (λ e. e) r (λ b. Ok (form.make (form.one l) b))) (number_in_lem (k + 1) range OutOfRange (form.two l) below second)
      ∙ ap (λ x. Ok x) whole

  first_small : Faithful form → (l : L) → GoodLabel form l → Small (form.one l)
  first_small faith l good = omega (arith, inside_end form.first (form.one l) good.first)

  -- a good label is read from its numerals
  pub label_in_lem : Faithful form → (k : ℕ) (l : L) → GoodLabel form l → label_in form k (map numeral (numbers_of form l)) ≡ Ok l
  label_in_lem faith k l good =
      second_in_lem form.second k l (faith.whole l) faith.alone (first_small faith l good) good.first faith.both good.second

  second_small : (o : Option Range) (l : L) → Small (form.one l) → IfSome o (λ r. r.end ≤ 10 ^ 9) → SecondGood o l → AllByRecursion Small (numbers_by o form l)
  second_small None l small both second = (small, tt)
  second_small (Some range) l small both second = (small, (omega (arith, inside_end range (form.two l) second), tt))

  pub label_small : Faithful form → (l : L) → GoodLabel form l → AllByRecursion Small (numbers_of form l)
  label_small faith l good = second_small form.second l (first_small faith l good) faith.both good.second

  numbers_width : (o : Option Range) (l : L) → length (map numeral (numbers_by o form l)) ≡ width_by o
  numbers_width None l = refl
  numbers_width (Some range) l = refl

  pub label_width : (l : L) → length (map numeral (numbers_of form l)) ≡ width form
  label_width l = numbers_width form.second l
