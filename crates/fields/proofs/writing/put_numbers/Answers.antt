use Rattle.std.proofs.Common.{◌≡◌, ℕ, ◌+◌, ◌-◌, ◌<◌, List, [], ◌∷◌, ◌++◌, length, get_or, take, drop, set, sym, ap, ◌∙◌, arith}
use borrow.Rule.Slice.PartMut.{put_mid}
use Rattle.std.proofs.lemmas.List.{length-append, length_push, append_assoc}
use Rattle.fields.specs.Numbers.{numeral}
use Rattle.fields.specs.Lines.{numbers_text, overlaid}
use Rattle.fields.proofs.Sizes.{size_more, text_more}
use Rattle.fields.proofs.Overlaid.{overlaid_push, overlaid_part}
use Rattle.fields.proofs.writing.put_numbers.Goals as goal

pub bounds-space-at : goal.bounds-space-at
bounds-space-at c = omega (arith, size_more c.args.numbers.now c.loop-number.number-index (omega arith))

-- one number more: its tab, and its digits at the start of what is left
module _ (ns ys : List ℕ) (i at : ℕ) (h : i < length ns) (e : at ≡ length (numbers_text (take i ns))) (room : at < length ys) where
  abbrev front : List ℕ
  front = numbers_text (take i ns)

  tabbed : set (overlaid front ys) at 9 ≡ overlaid (front ++ 9 ∷ []) ys
  tabbed = overlaid_push front ys 9 at (sym e) room

  longer : length (front ++ 9 ∷ []) ≡ at + 1
  longer = length_push front 9 ∙ ap (λ n. n + 1) (sym e)

  pub stepped : (s t : List ℕ) → s ≡ overlaid front ys
      → t ≡ overlaid (numeral (get_or ns i 0)) (take (length (set s at 9) - (at + 1)) (drop (at + 1) (set s at 9)))
      → put_mid (at + 1) (length (set s at 9) - (at + 1)) (set s at 9) t ≡ overlaid (numbers_text (take (i + 1) ns)) ys
  stepped s t p q =
      let digits : List ℕ = numeral (get_or ns i 0) in
      ap (put_mid (at + 1) (length (set s at 9) - (at + 1)) (set s at 9)) q
      ∙ overlaid_part (set s at 9) (front ++ 9 ∷ []) digits ys (at + 1) (ap (λ l. set l at 9) p ∙ tabbed) (sym longer)
      ∙ ap (λ l. overlaid l ys) (append_assoc front (9 ∷ []) digits ∙ sym (text_more ns i h))

pub loop-number-preserved : goal.loop-number-preserved
loop-number-preserved c =
    let size = size_more c.args.numbers.now c.loop-number.number-index (omega arith) in
    let text = text_more c.args.numbers.now c.loop-number.number-index (omega arith) in (
      omega (arith, ap length text, length-append (numbers_text (take c.loop-number.number-index c.args.numbers.now)) (9 ∷ numeral (get_or c.args.numbers.now c.loop-number.number-index 0)), c.put_number.ensures.count),
      omega (arith, size, c.put_number.ensures.count),
      stepped c.args.numbers.now c.args.space.now c.loop-number.number-index c.loop-number.at (omega arith) c.loop-number.invariant.0
          (omega (arith, size)) c.loop-number.space c.put_number.new.space c.loop-number.invariant.2 c.put_number.ensures.after,
    )
