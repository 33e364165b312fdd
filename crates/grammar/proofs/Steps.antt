-- What an answer tells of the steps that led to it.
use Rattle.std.proofs.Common.{◌≡◌, ℕ, suc, Bool, true, false, cond, List, [], ◌∷◌, length, Ok, Err, Result, refl, subst, arith}
use Rattle.grammar.specs.Reading.{and_then, first_of, rest_of, is_empty}

pub err_ok : {X E : Type 0} (e : E) (x : X) → ◌≡◌ {A = Result X E} (Err e) (Ok x) → ⊥
err_ok e x h = let o : ◌≡◌ {A = ℕ} 0 1 = cc in omega arith

pub same_ok : {X E : Type 0} (x y : X) → ◌≡◌ {A = Result X E} (Ok x) (Ok y) → x ≡ y
same_ok x y h = cc

-- both steps went well
pub then_ok : {X Y E F : Type 0} (f : E → F) (r : Result X E) (next : X → Result Y F) (y : Y) → and_then f r next ≡ Ok y
    → (x : X) × (r ≡ Ok x) × (next x ≡ Ok y)
then_ok f (Ok x) next y h = (x, refl, h)
then_ok f (Err e) next y h = absurd (err_ok (f e) y h)

-- a test was passed
pub cond_ok : {X E : Type 0} (b : Bool) (r : Result X E) (e : E) (x : X) → cond b r (Err e) ≡ Ok x → (b ≡ true) × (r ≡ Ok x)
cond_ok true r e x h = (refl, h)
cond_ok false r e x h = absurd (err_ok e x h)

pub cond_other : {X E : Type 0} (b : Bool) (r : Result X E) (e : E) (x : X) → cond b (Err e) r ≡ Ok x → (b ≡ false) × (r ≡ Ok x)
cond_other true r e x h = absurd (err_ok e x h)
cond_other false r e x h = (refl, h)

-- a step that went ill
pub ok_err : {X E : Type 0} (x : X) (e : E) → ◌≡◌ {A = Result X E} (Ok x) (Err e) → ⊥
ok_err x e h = let o : ◌≡◌ {A = ℕ} 0 1 = cc in omega arith

pub same_err : {X E : Type 0} (d e : E) → ◌≡◌ {A = Result X E} (Err d) (Err e) → d ≡ e
same_err d e h = cc

pub cond_err : {X E : Type 0} (b : Bool) (x : X) (d e : E) → cond b (Ok x) (Err d) ≡ Err e → (b ≡ false) × (d ≡ e)
cond_err true x d e h = absurd (ok_err x e h)
cond_err false x d e h = (refl, same_err d e h)

pub then_err : {X Y E F : Type 0} (P : F → Type 0) (f : E → F) (r : Result X E) (next : X → Result Y F) (d : F) → and_then f r next ≡ Err d
    → ((e : E) → r ≡ Err e → P (f e)) → ((x : X) → r ≡ Ok x → next x ≡ Err d → P d) → P d
then_err P f (Ok x) next d h a b = b x refl h
then_err P f (Err e) next d h a b = subst P (same_err (f e) d h) (a e refl)

-- some fields are their first and the others
pub fields_more : (n : ℕ) (fs : List (List ℕ)) → length fs ≡ suc n → (fs ≡ first_of fs ∷ rest_of fs) × (length (rest_of fs) ≡ n)
fields_more n [] h = absurd (omega arith)
fields_more n (f ∷ fs) h = (refl, omega arith)

-- no bytes are left
pub nothing_left : (bs : List ℕ) → is_empty bs ≡ true → bs ≡ []
nothing_left [] h = refl
nothing_left (b ∷ bs) h = absurd (let o : ◌≡◌ {A = ℕ} 0 1 = cc in omega arith)
