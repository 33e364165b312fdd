use Rattle.std.proofs.Common.{length, min, refl, ap, ◌∙◌, arith, rules}
use Rattle.std.proofs.lemmas.Iterator.{YieldsList-from_range}
use Rattle.std.proofs.lemmas.Iterator.Search.{any_from_yields_List}
use Rattle.graphs.specs.Alike.{alike}
use Rattle.network.specs.Pieces.{graph_at}
use Rattle.network.specs.Tables.{pieces_in}
use Rattle.finding.proofs.Alikes.{alike_earlier_lem}
use Rattle.finding.proofs.alike.is_alike_to_earlier.Goals as goal

pub returns : goal.returns
returns g c =
    let b = c.args.book.now in
    let h = g.S.Sheet.graph c.args.graph.now in
    any_from_yields_List (λ k. alike (graph_at (pieces_in b.tables) k) h) _ _ c.any.result c.any.ensures.ran (YieldsList-from_range 0 c.min-end.result c.min-end.result refl (omega arith)) (λ x r q k. search rules)
    ∙ alike_earlier_lem b c.args.before c.min-end.result h (c.min-end.ensures ∙ ap (λ l. min c.args.before (length l)) c.as_slice.ensures.items)
