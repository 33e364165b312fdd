-- When a graph is alike to one of the first pieces.
use Rattle.std.proofs.Common.{◌≡◌, ℕ, zero, suc, ◌+◌, ◌<◌, ◌≤◌, Bool, ◌||◌, List, length, get_or, min, take, drop, drop-cons, sym, refl, ap, ◌∙◌, arith}
use Rattle.std.specs.List.{list_any, range_with_len}
use Rattle.std.proofs.lemmas.List.{take_min}
use Rattle.graphs.specs.declared.Code.{Code}
use Rattle.graphs.specs.Graphs.{Graph}
use Rattle.graphs.specs.Alike.{alike}
use Rattle.network.specs.declared.book.Book.{Book}
use Rattle.network.specs.Pieces.{no_graph, graphs, graph_at}
use Rattle.network.specs.Tables.{pieces_in}
use Rattle.network.proofs.Kept.{length-graphs_in}
use Rattle.finding.specs.Alikes.{alike_earlier}

-- a test of places is one of the items that stand there
any_place : {X : Type 0} (test : X → Bool) (d : X) (xs : List X) (a n : ℕ) → a + n ≤ length xs → list_any (λ k. test (get_or xs k d)) (range_with_len a n) ≡ list_any test (take n (drop a xs))
any_place test d xs a zero h = refl
any_place test d xs a (suc n) h =
    let there : a < length xs = omega arith in
    let next : a + 1 ≡ suc a = omega arith in
    ap (λ r. test (get_or xs a d) || r) (any_place test d xs (a + 1) n (omega arith))
    ∙ ap (λ m. test (get_or xs a d) || list_any test (take n (drop m xs))) next
    ∙ ap (λ ys. list_any test (take (suc n) ys)) (sym (drop-cons xs a d there))

pub alike_earlier_lem : (b : Book) (k n : ℕ) (g : Graph Code) → n ≡ min k (length b.tables.pieces.items) → list_any (λ j. alike (graph_at (pieces_in b.tables) j) g) (range_with_len 0 n) ≡ alike_earlier (pieces_in b.tables) k g
alike_earlier_lem b k n g e =
    let gs = graphs (pieces_in b.tables) in
    let long : length gs ≡ length b.tables.pieces.items = length-graphs_in b.tables in
    any_place (λ h. alike h g) no_graph gs 0 n (omega (arith, long))
    ∙ ap (λ m. list_any (λ h. alike h g) (take m gs)) (e ∙ ap (min k) (sym long))
    ∙ ap (list_any (λ h. alike h g)) (take_min k gs)
