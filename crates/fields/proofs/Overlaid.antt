-- What a list holds as things are written at its start, one after another.
use Rattle.std.proofs.Common.{◌≡◌, ℕ, ◌+◌, ◌-◌, ◌<◌, List, [], ◌∷◌, ◌++◌, length, get_or, take, drop, set, sym, ap, ◌∙◌, arith}
use borrow.Rule.Slice.PartMut.{put_mid}
use Rattle.std.proofs.lemmas.List.{append_assoc, drop_more, set_at, length_push, length-append, drop_at, drop-drop, drop_all, append-nil, take_at, length-drop, take_rest}
use Rattle.fields.specs.Lines.{overlaid}

module _ {X : Type 0} where
  -- one more entry
  pub overlaid_push : (xs ys : List X) (x : X) (n : ℕ) → length xs ≡ n → n < length ys → set (overlaid xs ys) n x ≡ overlaid (xs ++ x ∷ []) ys
  overlaid_push xs ys x n e h =
      let h' : length xs < length ys = omega arith in
      ap (λ zs. set (xs ++ zs) n x) (drop_more ys (length xs) x h')
      ∙ set_at xs (get_or ys (length xs) x) (drop (length xs + 1) ys) x n e
      ∙ ap (λ k. xs ++ x ∷ drop k ys) (sym (length_push xs x))
      ∙ sym (append_assoc xs (x ∷ []) (drop (length (xs ++ x ∷ [])) ys))

  -- a write at the start of what stands from a place on
  whole : (s zs : List X) (a : ℕ) → put_mid a (length s - a) s (overlaid zs (take (length s - a) (drop a s))) ≡ take a s ++ overlaid zs (drop a s)
  whole s zs a =
      ap (λ r. take a s ++ (overlaid zs r ++ drop (length s - a) (drop a s))) (take_rest s a)
      ∙ ap (λ r. take a s ++ (overlaid zs (drop a s) ++ r)) (drop_all (length s - a) (drop a s) (simp length-drop (omega arith)))
      ∙ ap (λ r. take a s ++ r) (append-nil (overlaid zs (drop a s)))

  -- more entries, written after those that are there
  pub overlaid_part : (s xs zs ys : List X) (a : ℕ) → s ≡ overlaid xs ys → a ≡ length xs
      → put_mid a (length s - a) s (overlaid zs (take (length s - a) (drop a s))) ≡ overlaid (xs ++ zs) ys
  overlaid_part s xs zs ys a p e =
      whole s zs a
      ∙ (λ i. take a (p i) ++ overlaid zs (drop a (p i)))
      ∙ (λ i. take_at xs (drop (length xs) ys) a (sym e) i ++ overlaid zs (drop_at xs (drop (length xs) ys) a (sym e) i))
      ∙ ap (λ t. xs ++ (zs ++ t)) (drop-drop (length zs) (length xs) ys)
      ∙ ap (λ t. xs ++ (zs ++ drop t ys)) (sym (length-append xs zs))
      ∙ sym (append_assoc xs zs (drop (length (xs ++ zs)) ys))
