use Rattle.std.proofs.Common.{◌≡◌, ℕ, ◌+◌, false, List, Ok, sym, ◌∙◌, subst, rules}
use Rattle.fields.specs.Split.{left, given, ended}
use Rattle.texts.proofs.Filling.{Filling, room_for, turned}
use Rattle.texts.proofs.reader.read_lines.Goals as goal

pub store-progress-requires : goal.store-progress-requires
store-progress-requires g c =
    let taken : c.read_next.result ≡ Ok c.in_ok-said.said = search rules in
    room_for g.L.Label.form c.args.number c.args.text.now c.args.vertices.now c.args.ties.now c.loop-line.progress c.loop-line.vertices c.loop-line.ties 0
    c.in-Some.line.bytes.now (left c.next.new.self) c.in_ok-said.said c.loop-line.invariant.1 c.loop-line.invariant.2
    (sym c.read_next.ensures ∙ taken)

pub loop-line-preserved : goal.loop-line-preserved
loop-line-preserved g c =
    let taken : c.read_next.result ≡ Ok c.in_ok-said.said = search rules in
    let goes : ended (left c.next.new.self) ≡ false = sym c.is_done.ensures ∙ c.if-is_done.false in
    let here : List (List ℕ) → Type 0
    = λ ls. Filling g.L.Label.form c.args.number c.args.text.now c.args.vertices.now c.args.ties.now c.loop-line.progress c.loop-line.vertices c.loop-line.ties (given c.loop-line.lines + 1) ls in
    let there : ℕ → Type 0
    = λ k. Filling g.L.Label.form c.args.number c.args.text.now c.args.vertices.now c.args.ties.now c.store-progress.result c.store-progress.new.vertices c.store-progress.new.ties (k + 1) (left c.next.new.self) in
    subst there (sym c.in-Some.ensures.steps.2)
    (turned g.L.Label.form c.args.number c.args.text.now c.args.vertices.now c.args.ties.now c.loop-line.progress c.loop-line.vertices c.loop-line.ties
    (given c.loop-line.lines + 1) c.in-Some.line.bytes.now (left c.next.new.self) c.in_ok-said.said
    c.store-progress.result c.store-progress.new.vertices c.store-progress.new.ties
    (subst here c.in-Some.ensures.steps.0 c.loop-line.invariant) goes
    (sym c.read_next.ensures ∙ taken)
    c.store-progress.ensures.stage c.store-progress.ensures.counts c.store-progress.ensures.vertices c.store-progress.ensures.ties)
