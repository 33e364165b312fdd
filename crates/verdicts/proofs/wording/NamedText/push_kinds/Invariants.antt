use Rattle.std.proofs.Common.{◌≡◌, ◌++◌, get_or, string_bytes}
use Rattle.verdicts.specs.Wording.{kind_rows}
use Rattle.verdicts.proofs.wording.NamedText.push_kinds.Given as goal

abbrev pub invariant-loop-kind : goal.invariant-loop-kind
invariant-loop-kind l = string_bytes l.out ≡ string_bytes l.initial.out ++ kind_rows l.self.name.now (λ k. get_or l.counts k 0) l.kind
