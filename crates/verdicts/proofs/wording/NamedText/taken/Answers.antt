use Rattle.std.proofs.Common.{◌≡◌, ℕ, ◌<◌, List, ◌++◌, length, get_or, take, drop, string_bytes, ap, ◌∙◌, arith}
use Rattle.std.proofs.lemmas.List.{take_at}
use Rattle.graphs.specs.declared.Pay.{Pay}
use Rattle.grammar.specs.declared.records.Counts.{Counts}
use Rattle.verdicts.specs.Tallying.{kind_count}
use Rattle.verdicts.specs.Wording.{counts_text, kind_rows, taken_text}
use Rattle.verdicts.proofs.Rows.{rows_same}
use Rattle.verdicts.proofs.wording.NamedText.taken.Goals as goal

-- rows by a list of counts, where the counts are those of the vertices
whole : (name : List ℕ) (c : Counts) (vs : List Pay) (out last : List ℕ) (cs ws zs : List ℕ) (n : ℕ)
    → last ≡ out ++ kind_rows name (λ k. get_or cs k 0) (length cs) → out ≡ counts_text name c → cs ≡ take n (ws ++ zs) → length ws ≡ n → n ≡ 10000
    → ((k : ℕ) → k < length ws → get_or ws k 0 ≡ kind_count k vs) → last ≡ taken_text name c vs
whole name c vs out last cs ws zs n p q r len many each =
    let same : cs ≡ ws = r ∙ take_at ws zs n len in
    let all : length ws ≡ 10000 = len ∙ many in
    p ∙ (λ i. q i ++ kind_rows name (λ k. get_or (same i) k 0) (length (same i)))
    ∙ ap (λ m. counts_text name c ++ kind_rows name (λ k. get_or ws k 0) m) all
    ∙ ap (λ rows. counts_text name c ++ rows) (rows_same name (λ k. get_or ws k 0) (λ k. kind_count k vs) 10000 (λ k h. each k (omega (arith, all))))

pub returns : goal.returns
returns c =
    let same = c.tally.auto.counts in
    whole c.args.self.now.name.now c.args.counts c.args.vertices.now (string_bytes c.in_ok-out.out) (string_bytes c.push_kinds.new.out) c.as_slice.result.now
    c.tally.new.counts (drop (length c.tally.new.counts) c.in_ok-kinds.kinds.items) c.in_ok-kinds.kinds.len
    c.in_ok-push_kinds.ensures c.in_ok-out.ensures c.as_slice.ensures.value (same ∙ c.as_mut_slice.ensures.len) c.in_ok-kinds.ensures.len
    (λ k h. c.tally.ensures k (omega (arith, same)))
