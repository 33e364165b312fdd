-- What a label type states: its one or two fields, the numbers that each allows and the label that they make.
use Rattle.std.specs.Prelude.{◌≡◌, ℕ, ◌^◌, ◌≤◌, Bool, ◌&&◌, List, [], ◌∷◌, IfSome, Some, None, Option, OnSome, nat_le, nat_lt}
use Rattle.graphs.specs.declared.Code.{Code}
use Rattle.graphs.specs.declared.Pay.{Pay}
use Rattle.grammar.specs.declared.records.Range.{Range}

pub record Form (L : Type 0) : Type 0 where
  pub first : Range
  pub second : Option Range
  -- the label of two numbers, of which one field has only the first
  pub make : ℕ → ℕ → L
  -- the numbers of a label
  pub one : L → ℕ
  pub two : L → ℕ

abbrev pub inside : Range → ℕ → Bool
inside r n = nat_le r.start n && nat_lt n r.end

-- how many fields a label has
abbrev pub width : {L : Type 0} → Form L → ℕ
width f = elim f.second [ None ↦ 1 | Some r ↦ 2 ]

-- the numbers that a label is written with
abbrev pub numbers_of : {L : Type 0} → Form L → L → List ℕ
numbers_of f l = elim f.second [ None ↦ f.one l ∷ [] | Some r ↦ f.one l ∷ f.two l ∷ [] ]

-- a label and its numbers say the same, and numbers of nine digits suffice
pub record Faithful {L : Type 0} (f : Form L) : Type 0 where
  pub whole : (l : L) → f.make (f.one l) (f.two l) ≡ l
  pub alone : f.second ≡ None → (a b c : ℕ) → f.make a b ≡ f.make a c
  pub ones : (a b : ℕ) → f.one (f.make a b) ≡ a
  pub twos : (a b : ℕ) → OnSome f.second (f.two (f.make a b) ≡ b)
  pub small : f.first.end ≤ 10 ^ 9
  pub both : IfSome f.second (λ r. r.end ≤ 10 ^ 9)

-- codes and kinds go from 1 to 9,999, and pence from 0 to 999,999,999
abbrev pub code_range : Range
code_range = record { start = 1; end = 10000 }

abbrev pub pence_range : Range
pence_range = record { start = 0; end = 1000000000 }

-- a code is its one number; a pay label is its kind and its pence
abbrev pub code_form : Form Code
code_form = record { first = code_range; second = None; make = λ a _. record { number = a }; one = λ c. c.number; two = λ _. 0 }

abbrev pub pay_form : Form Pay
pay_form = record { first = code_range; second = Some pence_range; make = λ a b. record { kind = a; pence = b }; one = λ p. p.kind; two = λ p. p.pence }
