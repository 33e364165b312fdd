use Rattle.graphs.proofs.Nested.{part_of_part}
use Rattle.sheets.specs.Parts.{picks_of}
use Rattle.sheets.proofs.part.answers.part_of_part_is_a_part.Goals as goal

pub returns : goal.returns
returns g c =
    let q = c.args.part.now in
    part_of_part (picks_of q.below) (picks_of q) q.below.ascending q.ascending (g.S.Sheet.graph q.below.below)
