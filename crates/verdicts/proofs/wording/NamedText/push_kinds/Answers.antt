use Rattle.std.proofs.Common.{◌≡◌, ℕ, ◌+◌, List, ◌++◌, get_or, string_bytes, sym, ap, ◌∙◌}
use Rattle.std.proofs.lemmas.List.{append_assoc, append-nil}
use Rattle.verdicts.specs.Wording.{kind_text, kind_rows}
use Rattle.verdicts.proofs.Rows.{rows_none, rows_more}
use Rattle.verdicts.proofs.wording.NamedText.push_kinds.Goals as goal

starts : (out name : List ℕ) (f : ℕ → ℕ) → out ≡ out ++ kind_rows name f 0
starts out name f = sym (append-nil out) ∙ ap (λ rows. out ++ rows) (sym (rows_none name f))

goes_on : (first out next name : List ℕ) (f : ℕ → ℕ) (k : ℕ) → out ≡ first ++ kind_rows name f k → next ≡ out ++ kind_text name k (f k) → next ≡ first ++ kind_rows name f (k + 1)
goes_on first out next name f k p q =
    q ∙ ap (λ t. t ++ kind_text name k (f k)) p ∙ append_assoc first (kind_rows name f k) (kind_text name k (f k)) ∙ ap (λ rows. first ++ rows) (sym (rows_more name f k))

pub loop-kind-init : goal.loop-kind-init
loop-kind-init c = starts (string_bytes c.args.out.now) c.args.self.now.name.now (λ k. get_or c.args.counts.now k 0)

pub loop-kind-preserved : goal.loop-kind-preserved
loop-kind-preserved c =
    goes_on (string_bytes c.args.out.now) (string_bytes c.loop-kind.out) (string_bytes c.push_kind.new.out) c.args.self.now.name.now (λ k. get_or c.args.counts.now k 0)
    c.loop-kind.kind c.loop-kind.invariant c.in_ok-push_kind.ensures
