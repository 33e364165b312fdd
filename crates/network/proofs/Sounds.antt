-- The graphs of good pieces are sound.
use Rattle.std.proofs.Common.{◌≡◌, ℕ, zero, suc, ◌+◌, ◌-◌, ◌<◌, ◌≤◌, true, false, cond, ◌&&◌, eqb, ltb, leb, List, [], ◌∷◌, ◌++◌, length, get_or, is_some, Some, None, Option, refl, ◌∙◌, ⊎_elim, arith}
use Rattle.std.specs.List.{AllByRecursion, list_all}
use Rattle.std.proofs.ByRecursion.{All-push}
use Rattle.std.proofs.lemmas.Bool.{and_parts, cases_Bool, cond_both, cond-true, cond-false, ltb-true, ltb-false, le-ltb, ne_eqb, false≢true}
use Rattle.graphs.specs.declared.Code.{Code}
use Rattle.graphs.specs.declared.Tie.{Tie}
use Rattle.graphs.specs.Graphs.{Graph, Sound}
use Rattle.graphs.specs.Tables.{first_tie}
use Rattle.graphs.proofs.Members.{all_in}
use Rattle.network.specs.Pieces.{Piece, vertex, join, no_graph, single, union, graph_from, graphs_after, graphs, graph_at}
use Rattle.network.specs.Rules.{crosses, good_code, ascend, good_ties, good_piece, good_pieces}
use Rattle.network.proofs.Splits.{every_to, tie_in_lem}

pub no_graph_sound : Sound no_graph
no_graph_sound = record {
  labelled = λ v h. let none : ⊥ = omega arith in absurd none;
  bare = λ v h. refl;
  inside = λ u v e. absurd (false≢true e);
  apart = λ v. refl;
}

single_label : (c : Code) (v : ℕ) → v < 1 → is_some ((single c).label v) ≡ true
single_label c zero h = refl
single_label c (suc v) h = let none : ⊥ = omega arith in absurd none

single_sound : (c : Code) → Sound (single c)
single_sound c = record {
  labelled = single_label c;
  bare = λ v h. cond-false (eqb v 0) (Some c) None (ne_eqb v 0 (λ e. omega arith));
  inside = λ u v e. absurd (false≢true e);
  apart = λ v. refl;
}

-- what ties that cross give of the first one between two vertices
module _ (m n : ℕ) (ts : List (Tie Code)) (good : list_all (crosses m (m + n)) ts ≡ true) where
  -- both are vertices, and one is of the first m and the other is not
  Across : ℕ → ℕ → Type 0
  Across u v = (u < m + n) × (v < m + n) × (cond (ltb u m) (leb m v) (ltb v m) ≡ true)

  across_tie : (t : Tie Code) → crosses m (m + n) t ≡ true → Across t.from t.to
  unfolding Across
  across_tie t h =
      let p = and_parts (ltb t.from (m + n)) (ltb t.to (m + n) && cond (ltb t.from m) (leb m t.to) (ltb t.to m)) h in
      let q = and_parts (ltb t.to (m + n)) (cond (ltb t.from m) (leb m t.to) (ltb t.to m)) p.1 in
      (ltb-true t.from (m + n) p.0, ltb-true t.to (m + n) q.0, q.1)

  across_first : (u v : ℕ) (o : Option Code) → first_tie ts u v ≡ o → is_some o ≡ true → Across u v
  across_first u v None e s = absurd (false≢true s)
  across_first u v (Some c) e s =
      across_tie (record { from = u; to = v; label = c }) (all_in (λ t. crosses m (m + n) t ≡ true) (record { from = u; to = v; label = c }) ts (every_to (crosses m (m + n)) ts good) (tie_in_lem ts u v c e))

  pub across_ends : (u v : ℕ) → is_some (first_tie ts u v) ≡ true → (u < m + n) × (v < m + n)
  unfolding Across
  across_ends u v s = let a = across_first u v (first_tie ts u v) refl s in (a.0, a.1)

module _ (a b : Graph Code) (ts : List (Tie Code)) (sa : Sound a) (sb : Sound b) (good : list_all (crosses a.size (a.size + b.size)) ts ≡ true) where
  abbrev m : ℕ
  m = a.size

  abbrev n : ℕ
  n = b.size

  abbrev u : Graph Code
  u = union a b ts

  labelled : (v : ℕ) → v < m + n → is_some (u.label v) ≡ true
  labelled v h =
      cond_both (ltb v m) (a.label v) (b.label (v - m)) (λ o. is_some o ≡ true)
      (λ e. sa.labelled v (ltb-true v m e))
      (λ e. sb.labelled (v - m) (omega (arith, ltb-false v m e)))

  bare : (v : ℕ) → m + n ≤ v → u.label v ≡ None
  bare v h = cond-false (ltb v m) (a.label v) (b.label (v - m)) (le-ltb v m (omega arith)) ∙ sb.bare (v - m) (omega arith)

  inside : (i j : ℕ) → is_some (u.tie i j) ≡ true → (i < m + n) × (j < m + n)
  inside i j =
      cond_both (ltb i m) (cond (ltb j m) (a.tie i j) (first_tie ts i j)) (cond (ltb j m) (first_tie ts i j) (b.tie (i - m) (j - m)))
      (λ o. is_some o ≡ true → (i < m + n) × (j < m + n))
      (λ e. cond_both (ltb j m) (a.tie i j) (first_tie ts i j) (λ o. is_some o ≡ true → (i < m + n) × (j < m + n))
      (λ f s. (omega (arith, ltb-true i m e), omega (arith, ltb-true j m f)))
      (λ f s. across_ends m n ts good i j s))
      (λ e. cond_both (ltb j m) (first_tie ts i j) (b.tie (i - m) (j - m)) (λ o. is_some o ≡ true → (i < m + n) × (j < m + n))
      (λ f s. across_ends m n ts good i j s)
      (λ f s. let r = sb.inside (i - m) (j - m) s in (omega (arith, r.0), omega (arith, r.1))))

  apart : (v : ℕ) → u.tie v v ≡ None
  apart v =
      ⊎_elim
      (λ (e : ltb v m ≡ true). cond-true (ltb v m) _ _ e ∙ cond-true (ltb v m) (a.tie v v) (first_tie ts v v) e ∙ sa.apart v)
      (λ (e : ltb v m ≡ false). cond-false (ltb v m) _ _ e ∙ cond-false (ltb v m) (first_tie ts v v) (b.tie (v - m) (v - m)) e ∙ sb.apart (v - m))
      (cases_Bool (ltb v m))

  pub union_sound : Sound (union a b ts)
  union_sound = record { labelled = labelled; bare = bare; inside = inside; apart = apart }

sound_at : (gs : List (Graph Code)) → AllByRecursion Sound gs → (k : ℕ) → Sound (get_or gs k no_graph)
sound_at [] h k = no_graph_sound
sound_at (g ∷ gs) h zero = h.0
sound_at (g ∷ gs) h (suc k) = sound_at gs h.1 k

piece_sound : (gs : List (Graph Code)) (p : Piece) → AllByRecursion Sound gs → good_piece gs p ≡ true → Sound (graph_from gs p)
piece_sound gs (vertex c) h e = single_sound c
piece_sound gs (join a b ts) h e =
    let first : Graph Code = get_or gs a no_graph in
    let second : Graph Code = get_or gs b no_graph in
    let p = and_parts (ltb a (length gs)) (ltb b (length gs) && good_ties first.size second.size ts) e in
    let q = and_parts (ltb b (length gs)) (good_ties first.size second.size ts) p.1 in
    let r = and_parts (list_all (crosses first.size (first.size + second.size)) ts) (list_all (λ t. good_code t.label) ts && ascend ts) q.1 in
    union_sound first second ts (sound_at gs h a) (sound_at gs h b) r.0

sound_after : (gs : List (Graph Code)) (ps : List Piece) → AllByRecursion Sound gs → good_pieces gs ps ≡ true → AllByRecursion Sound (graphs_after gs ps)
sound_after gs [] h e = h
sound_after gs (p ∷ ps) h e =
    let g : Graph Code = graph_from gs p in
    let r = and_parts (good_piece gs p) (good_pieces (gs ++ g ∷ []) ps) e in
    sound_after (gs ++ g ∷ []) ps (All-push Sound gs g h (piece_sound gs p h r.0)) r.1

pub graph_sound : (ps : List Piece) → good_pieces [] ps ≡ true → (k : ℕ) → Sound (graph_at ps k)
graph_sound ps h k = sound_at (graphs ps) (sound_after [] ps tt h) k
