use Rattle.std.proofs.Common.{◌≡◌, ℕ, ◌+◌, ◌-◌, ◌/◌, ◌%◌, ◌<◌, cond, ltb, List, [], ◌∷◌, ◌++◌, ◌∙◌, arith}
use Rattle.std.proofs.lemmas.List.{append_assoc}
use Rattle.std.proofs.lemmas.Bool.{cond_both, ltb-true}
use Rattle.verdicts.specs.Showing.{hex_digit, escaped_byte}
use Rattle.verdicts.proofs.showing.push_escaped.Goals as goal

hex_ascii : (n d : ℕ) → d ≡ hex_digit n → d < 128
hex_ascii n d e =
    let small : hex_digit n < 128
    = cond_both (ltb n 10) (48 + n) (cond (ltb n 16) (97 + (n - 10)) 63) (λ x. x < 128) (λ t. omega (arith, ltb-true _ _ t))
    (λ _. cond_both (ltb n 16) (97 + (n - 10)) 63 (λ x. x < 128) (λ t. omega (arith, ltb-true _ _ t)) (λ _. omega arith)) in
    omega (arith, small, e)

regroup : (t : List ℕ) (a b : ℕ) → ((t ++ 92 ∷ 120 ∷ []) ++ a ∷ []) ++ b ∷ [] ≡ t ++ 92 ∷ 120 ∷ a ∷ b ∷ []
regroup t a b = simp append_assoc

escaped : (t s₁ s₂ s₃ e₁ e₂ : List ℕ) (a b byte : ℕ) → s₁ ≡ t ++ 92 ∷ 120 ∷ [] → s₂ ≡ s₁ ++ e₁ → s₃ ≡ s₂ ++ e₂
    → e₁ ≡ a ∷ [] → e₂ ≡ b ∷ [] → a ≡ hex_digit (byte / 16) → b ≡ hex_digit (byte % 16) → s₃ ≡ t ++ escaped_byte byte
escaped t s₁ s₂ s₃ e₁ e₂ a b byte p q r u v w x =
    let one : s₃ ≡ ((t ++ 92 ∷ 120 ∷ []) ++ a ∷ []) ++ b ∷ [] = cc in
    one ∙ regroup t a b ∙ (λ i. t ++ 92 ∷ 120 ∷ w i ∷ x i ∷ [])

pub returns : goal.returns
returns c =
    let d = c.hex_digit.ensures in
    let e = c.hex_digit-2.ensures in
    escaped _ _ _ _ _ _ c.hex_digit.result c.hex_digit-2.result c.args.byte
    c.in_ok-push_str.ensures.bytes c.in_ok-push.ensures.bytes c.in_ok-push-2.ensures.bytes
    (c.in_ok-push.ensures.ascii (hex_ascii (c.args.byte / 16) c.hex_digit.result d)) (c.in_ok-push-2.ensures.ascii (hex_ascii (c.args.byte % 16) c.hex_digit-2.result e)) d e
