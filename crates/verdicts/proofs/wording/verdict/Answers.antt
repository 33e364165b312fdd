use Rattle.std.proofs.Common.{◌≡◌, length, ap, ◌∙◌}
use Rattle.std.proofs.lemmas.Result.{IfOk-weaker}
use Rattle.verdicts.specs.Showing.{shown_bytes}
use Rattle.verdicts.specs.Wording.{verdict_text}
use Rattle.verdicts.proofs.wording.verdict.Goals as goal

pub returns : goal.returns
returns c =
    let vertices : length c.as_mut_slice.result.now ≡ 4096 = c.as_mut_slice.ensures.len ∙ c.in_ok-vertices.ensures.len in
    let ties : length c.as_mut_slice-2.result.now ≡ 4096 = c.as_mut_slice-2.ensures.len ∙ c.in_ok-ties.ensures.len in
    let name : c.as_str.result.now ≡ shown_bytes c.args.name.now = c.as_str.ensures.value ∙ c.in_ok-name.ensures ∙ ap shown_bytes c.as_bytes.ensures.value in
    IfOk-weaker c.verdict_in.result _ _
    (λ s e. e ∙ (λ i. verdict_text (record { vertices = vertices i; ties = ties i }) (name i) c.args.text.now))
    c.verdict_in.ensures
