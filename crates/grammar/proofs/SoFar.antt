-- What the lines so far have written, and that each record keeps the rules of a graph.
use Rattle.std.proofs.Common.{◌≡◌, ℕ, ◌≤◌, List, [], ◌∷◌, ◌++◌, length, sym, refl, ap, ◌∙◌, subst, arith}
use Rattle.std.specs.List.{flat_map, AllByRecursion}
use Rattle.std.proofs.lemmas.List.{append_assoc, append-nil, flat_map_more, length_push}
use Rattle.std.proofs.ByRecursion.{All-push}
use Rattle.graphs.specs.declared.Tie.{Tie}
use Rattle.fields.specs.Lines.{line_text}
use Rattle.grammar.specs.declared.records.Counts.{Counts}
use Rattle.grammar.specs.declared.records.Record.{Record}
use Rattle.grammar.specs.declared.records.Record.TheVariants.{Graph, Vertex, Tied, End}
use Rattle.grammar.specs.declared.records.Stage.{Stage}
use Rattle.grammar.specs.declared.records.Stage.TheVariants.{Opening, Vertices, Ties, Closed}
use Rattle.grammar.specs.Labels.{Form, width}
use Rattle.grammar.specs.Reading.{State, added, start}
use Rattle.grammar.specs.Writing.{vertex_text, tie_text, GoodLabel, GoodTie, Different}
use Rattle.grammar.proofs.Sayings.{text_for, AtHead, AtVertices, Allowed}
use Rattle.grammar.proofs.Pairs.{different_push}

-- what is there yet at each stage
abbrev pub Staged : {L : Type 0} → Stage → List L → List (Tie L) → Type 0
Staged Opening ls ts = (ls ≡ []) × (ts ≡ [])
Staged Vertices ls ts = ts ≡ []
Staged Ties ls ts = Unit {0}
Staged Closed ls ts = Unit {0}

-- the lines of labels and ties up to a stage
abbrev pub lines_by : {L : Type 0} → Form L → Stage → List L → List (Tie L) → List ℕ
lines_by form Opening ls ts = []
lines_by form Vertices ls ts = line_text 103 (width form ∷ []) ++ (flat_map (vertex_text form) ls ++ flat_map (tie_text form) ts)
lines_by form Ties ls ts = line_text 103 (width form ∷ []) ++ (flat_map (vertex_text form) ls ++ flat_map (tie_text form) ts)
lines_by form Closed ls ts = line_text 103 (width form ∷ []) ++ (flat_map (vertex_text form) ls ++ (flat_map (tie_text form) ts ++ line_text 101 []))

abbrev pub so_far : {L : Type 0} → Form L → State L → List ℕ
so_far form s = lines_by form s.stage s.labels s.ties

-- the rules that what is read keeps
pub record Kept {L : Type 0} (form : Form L) (room : Counts) (s : State L) : Type 0 where
  pub staged : Staged s.stage s.labels s.ties
  pub labels : AllByRecursion (GoodLabel form) s.labels
  pub ties : AllByRecursion (GoodTie form (length s.labels)) s.ties
  pub different : Different s.ties
  pub vertices : length s.labels ≤ room.vertices
  pub most : length s.ties ≤ room.ties

module _ {L : Type 0} (form : Form L) (room : Counts) where
  abbrev head : List ℕ
  head = line_text 103 (width form ∷ [])

  pub kept_start : Kept form room start
  kept_start = record { staged = (refl, refl); labels = tt; ties = tt; different = tt; vertices = omega arith; most = omega arith }

  vertex_more : (ls : List L) (ts : List (Tie L)) (l : L) → ts ≡ []
      → head ++ (flat_map (vertex_text form) (ls ++ l ∷ []) ++ flat_map (tie_text form) ts) ≡ (head ++ (flat_map (vertex_text form) ls ++ flat_map (tie_text form) ts)) ++ vertex_text form l
  vertex_more ls ts l e =
      let none : (xs : List L) → flat_map (vertex_text form) xs ++ flat_map (tie_text form) ts ≡ flat_map (vertex_text form) xs
      = λ xs. ap (λ us. flat_map (vertex_text form) xs ++ flat_map (tie_text form) us) e ∙ append-nil (flat_map (vertex_text form) xs) in
      ap (λ bs. head ++ bs) (none (ls ++ l ∷ [])) ∙ sym (flat_map_more (vertex_text form) head ls l) ∙ ap (λ bs. (head ++ bs) ++ vertex_text form l) (sym (none ls))

  tie_more : (ls : List L) (ts : List (Tie L)) (t : Tie L)
      → head ++ (flat_map (vertex_text form) ls ++ flat_map (tie_text form) (ts ++ t ∷ [])) ≡ (head ++ (flat_map (vertex_text form) ls ++ flat_map (tie_text form) ts)) ++ tie_text form t
  tie_more ls ts t =
      ap (λ bs. head ++ bs) (sym (flat_map_more (tie_text form) (flat_map (vertex_text form) ls) ts t))
      ∙ sym (append_assoc head (flat_map (vertex_text form) ls ++ flat_map (tie_text form) ts) (tie_text form t))

  end_more : (ws xs ys zs : List ℕ) → ws ++ (xs ++ (ys ++ zs)) ≡ (ws ++ (xs ++ ys)) ++ zs
  end_more ws xs ys zs = ap (λ us. ws ++ us) (sym (append_assoc xs ys zs)) ∙ sym (append_assoc ws (xs ++ ys) zs)

  -- a record adds its line
  added_text : (stage : Stage) (ls : List L) (ts : List (Tie L)) (r : Record L) → Staged stage ls ts → Allowed form room stage (length ls) ts r
      → so_far form (added (record { stage = stage; labels = ls; ties = ts }) r) ≡ lines_by form stage ls ts ++ text_for form r
  added_text Opening ls ts Graph g a = (λ i. head ++ (flat_map (vertex_text form) (g.0 i) ++ flat_map (tie_text form) (g.1 i))) ∙ append-nil head
  added_text Opening ls ts (Vertex l) g a = absurd a.0
  added_text Opening ls ts (Tied t) g a = absurd a.0
  added_text Opening ls ts End g a = absurd a
  added_text Vertices ls ts Graph g a = absurd a
  added_text Vertices ls ts (Vertex l) g a = vertex_more ls ts l g
  added_text Vertices ls ts (Tied t) g a = tie_more ls ts t
  added_text Vertices ls ts End g a = end_more head (flat_map (vertex_text form) ls) (flat_map (tie_text form) ts) (line_text 101 [])
  added_text Ties ls ts Graph g a = absurd a
  added_text Ties ls ts (Vertex l) g a = absurd a.0
  added_text Ties ls ts (Tied t) g a = tie_more ls ts t
  added_text Ties ls ts End g a = end_more head (flat_map (vertex_text form) ls) (flat_map (tie_text form) ts) (line_text 101 [])
  added_text Closed ls ts Graph g a = absurd a
  added_text Closed ls ts (Vertex l) g a = absurd a.0
  added_text Closed ls ts (Tied t) g a = absurd a.0
  added_text Closed ls ts End g a = absurd a

  pub text_more : (s : State L) (r : Record L) → Kept form room s → Allowed form room s.stage (length s.labels) s.ties r
      → so_far form (added s r) ≡ so_far form s ++ text_for form r
  text_more s r g a = added_text s.stage s.labels s.ties r g.staged a

  -- at the vertices there are no ties yet
  no_ties : (stage : Stage) (ls : List L) (ts : List (Tie L)) → AtVertices stage → Staged stage ls ts → ts ≡ []
  no_ties Opening ls ts a g = absurd a
  no_ties Vertices ls ts a g = g
  no_ties Ties ls ts a g = absurd a
  no_ties Closed ls ts a g = absurd a

  at_head : (stage : Stage) (ls : List L) (ts : List (Tie L)) → AtHead stage → Staged stage ls ts → ts ≡ []
  at_head Opening ls ts a g = g.1
  at_head Vertices ls ts a g = absurd a
  at_head Ties ls ts a g = absurd a
  at_head Closed ls ts a g = absurd a

  -- a record that is allowed keeps the rules
  pub kept_more : (s : State L) (r : Record L) → Kept form room s → Allowed form room s.stage (length s.labels) s.ties r → Kept form room (added s r)
  kept_more s Graph g a =
      record { staged = at_head s.stage s.labels s.ties a g.staged; labels = g.labels; ties = g.ties; different = g.different; vertices = g.vertices; most = g.most }
  kept_more s (Vertex l) g a =
      let none = no_ties s.stage s.labels s.ties a.0 g.staged in
      record {
        staged = none;
        labels = All-push (GoodLabel form) s.labels l g.labels a.1;
        ties = subst (AllByRecursion (GoodTie form (length (s.labels ++ l ∷ [])))) (sym none) tt;
        different = g.different;
        vertices = omega (arith, length_push s.labels l, a.2);
        most = g.most;
      }
  kept_more s (Tied t) g a =
      record {
        staged = tt;
        labels = g.labels;
        ties = All-push (GoodTie form (length s.labels)) s.ties t g.ties a.1;
        different = different_push s.ties t g.different a.2;
        vertices = g.vertices;
        most = omega (arith, length_push s.ties t, a.3);
      }
  kept_more s End g a = record { staged = tt; labels = g.labels; ties = g.ties; different = g.different; vertices = g.vertices; most = g.most }
