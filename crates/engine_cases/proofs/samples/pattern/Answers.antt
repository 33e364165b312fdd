use Rattle.std.proofs.Common.{rules, Ok}
use Rattle.std.proofs.lemmas.Iterator.{YieldsList-from_slice, YieldsList-from_map, items_from_collect}
use Rattle.engine_cases.specs.Patterns.{code_of}
use Rattle.engine_cases.proofs.samples.pattern.Goals as goal

pub returns-clause-labels : goal.returns-clause-labels
returns-clause-labels c =
    items_from_collect {E = Unit {0}} (Ok c.in_ok-labels.labels) c.in_ok-labels.ensures.ran
    (YieldsList-from_map _ code_of (YieldsList-from_slice c.args.codes.now (search rules)) (search rules) (λ x r q called. (search rules, search rules)))
