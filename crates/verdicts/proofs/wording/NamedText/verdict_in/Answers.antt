use Rattle.std.proofs.Common.{sym, ap, ◌∙◌}
use Rattle.std.proofs.lemmas.List.{length-take-le}
use Rattle.std.proofs.lemmas.Result.{IfOk-weaker}
use Rattle.texts.specs.Graphs.{room_in}
use Rattle.verdicts.specs.Judging.{judging}
use Rattle.verdicts.specs.Wording.{taken_text, answer_text}
use Rattle.verdicts.proofs.Judgings.{within, front}
use Rattle.verdicts.proofs.wording.NamedText.verdict_in.Goals as goal

pub slice_bounds-taken-end : goal.slice_bounds-taken-end
slice_bounds-taken-end c =
    within c.args.self.now.text.now c.args.vertices.now c.args.ties.now c.in-Ok.counts c.judge.new.vertices c.judge.new.ties c.in-Ok.ensures

pub slice_bounds-taken-end-in-Ok : goal.slice_bounds-taken-end-in-Ok
slice_bounds-taken-end-in-Ok c =
    sym (length-take-le _ _ (within c.args.self.now.text.now c.args.vertices.now c.args.ties.now c.in-Ok.counts c.judge.new.vertices c.judge.new.ties c.in-Ok.ensures))

pub returns-in-Ok : goal.returns-in-Ok
returns-in-Ok c =
    let j = c.in-Ok.ensures in
    let f = front c.args.self.now.text.now c.args.vertices.now c.args.ties.now c.in-Ok.counts c.judge.new.vertices c.judge.new.ties j in
    IfOk-weaker c.taken.result _ _
    (λ s e. e ∙ ap (taken_text c.args.self.now.name.now c.in-Ok.counts) f
    ∙ ap (answer_text c.args.self.now.name.now c.args.self.now.text.now (judging (room_in c.args.vertices.now c.args.ties.now) c.args.self.now.text.now).state.labels) j.answer)
    c.taken.ensures
