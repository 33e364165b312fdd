use Rattle.std.proofs.Common.{◌<◌, ◌^◌, length, inl, refl, arith}
use Rattle.std.proofs.lemmas.Iterator.Consumers.{count_from_yields_List}
use Rattle.fields.specs.Split.{left}
use Rattle.fields.proofs.Splits.{hands_out_left, few_left}
use Rattle.fields.proofs.pieces.Pieces.remaining.Goals as goal

pub count-requires-clause-fits : goal.count-requires-clause-fits
count-requires-clause-fits c =
    let few : length (left c.args.self.now) < 2 ^ 64 = few_left c.args.self.now in
    inl (omega arith)

pub returns : goal.returns
returns c = count_from_yields_List _ _ c.count.ensures.ran (hands_out_left c.args.self.now _ refl)
