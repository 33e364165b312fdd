use Rattle.std.proofs.Common.{◌≡◌, ℕ, Bool, true, false, not, List, Some, None, Option, Bor, sym, refl, ◌∙◌}
use Rattle.std.specs.Option.{is_some}
use Rattle.fields.specs.Split.{pieces_in, ended}
use Rattle.fields.proofs.Splits.{some_piece}
use Rattle.fields.proofs.pieces.Pieces.is_done.Goals as goal

done : (s : ℕ) (rest : Option (Bor (List ℕ))) (b : Bool) → is_some rest ≡ not b → b ≡ ended (pieces_in s rest)
done s None true e = refl
done s None false e = e
done s (Some bytes) true e = let z : true ≡ false = e in z ∙ sym (some_piece s bytes.now)
done s (Some bytes) false e = sym (some_piece s bytes.now)

pub returns : goal.returns
returns c = done c.args.self.now.separator c.args.self.now.rest c.is_none.result c.is_none.ensures
