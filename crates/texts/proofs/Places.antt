-- The piece at a place, by what the list of the pieces has there.
use Rattle.std.proofs.Common.{◌≡◌, ℕ, ◌+◌, ◌-◌, eqb, List, [], get_or, Option, sym, ap, ◌∙◌, arith}
use Rattle.std.specs.List.{slice_get}
use Rattle.std.specs.Option.{unwrap_or}
use Rattle.std.proofs.lemmas.Option.{unwrap_or-slice_get}
use Rattle.std.proofs.lemmas.Bool.{cond-false, ne_eqb}
use Rattle.fields.specs.Split.{split}
use Rattle.grammar.specs.Pointing.{piece_at}

pub piece_there : (s k i : ℕ) (text : List ℕ) (o : Option (List ℕ)) → k ≡ i + 1 → o ≡ slice_get (split s text) i → unwrap_or o [] ≡ piece_at s k text
piece_there s k i text o h e =
    let at : i ≡ k - 1 = omega arith in
    ap (λ p. unwrap_or p []) e ∙ unwrap_or-slice_get (split s text) i [] ∙ ap (λ j. get_or (split s text) j []) at
    ∙ sym (cond-false (eqb k 0) _ _ (ne_eqb k 0 (λ z. omega arith)))
