-- When a pick is taken, and what picks there are then.
use Rattle.std.specs.Prelude.{ℕ, ◌-◌, Bool, cond, ◌||◌, List, [], ◌∷◌, ◌++◌, length, is_ok, Ok, Err, Result, ◌==◌, nat_lt, slice_index}
use Rattle.sheets.specs.declared.refusal.PickRefusal.{PickRefusal}
use Rattle.sheets.specs.declared.refusal.PickRefusal.TheVariants.{NotAboveLast, NotInSheet, TooMany}

-- how many picks a part holds at most
abbrev pub most_picks : ℕ
most_picks = 256

-- every number is above the last of no picks
abbrev pub above_last : List ℕ → ℕ → Bool
above_last ps v = length ps == 0 || nat_lt (slice_index ps (length ps - 1)) v

-- what is answered to the pick v after the picks ps, on a sheet of n vertices
abbrev pub answered : ℕ → List ℕ → ℕ → Result (Unit {0}) PickRefusal
answered n ps v =
    cond (above_last ps v)
    (cond (nat_lt v n) (cond (nat_lt (length ps) most_picks) (Ok tt) (Err TooMany)) (Err NotInSheet))
    (Err NotAboveLast)

-- the picks that there are then: a refused one changes nothing
abbrev pub picks_after : ℕ → List ℕ → ℕ → List ℕ
picks_after n ps v = cond (is_ok (answered n ps v)) (ps ++ v ∷ []) ps
