-- The rows of kinds, one after another.
use Rattle.std.proofs.Common.{◌≡◌, ℕ, zero, suc, ◌+◌, ◌<◌, List, [], ◌++◌, refl, ap, add-one, arith}
use Rattle.verdicts.specs.Wording.{kind_text, kind_rows}

pub rows_none : (name : List ℕ) (f : ℕ → ℕ) → kind_rows name f 0 ≡ []
unfolding kind_rows
rows_none name f = refl

pub rows_more : (name : List ℕ) (f : ℕ → ℕ) (k : ℕ) → kind_rows name f (k + 1) ≡ kind_rows name f k ++ kind_text name k (f k)
unfolding kind_rows
rows_more name f k = ap (kind_rows name f) (add-one k)

pub rows_same : (name : List ℕ) (f g : ℕ → ℕ) (n : ℕ) → ((k : ℕ) → k < n → f k ≡ g k) → kind_rows name f n ≡ kind_rows name g n
unfolding kind_rows
rows_same name f g zero h = refl
rows_same name f g (suc n) h = λ i. rows_same name f g n (λ k l. h k (omega arith)) i ++ kind_text name n (h n (omega arith) i)
