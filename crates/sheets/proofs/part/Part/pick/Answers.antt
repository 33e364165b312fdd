use Rattle.std.proofs.Common.{◌≡◌, ◌<◌, length, length-set, arith}
use Rattle.std.proofs.lemmas.List.{length-take-le, take_more_set}
use Rattle.sheets.proofs.Rising.{ok_room, rising_more}
use Rattle.sheets.specs.Parts.{picks_of}
use Rattle.sheets.proofs.part.Part.pick.Goals as goal

pub invariant_of-self : goal.invariant_of-self
invariant_of-self g c =
    let p = c.args.self.now in
    let n = (g.S.Sheet.graph p.below).size in
    let many : length (picks_of p) ≡ p.count = length-take-le p.count p.array (omega arith) in
    let room : length (picks_of p) < 256 = ok_room (picks_of p) c.args.vertex n c.in_ok-answer.ensures in
    record {
      long = simp length-set p.long;
      few = omega arith;
      ascending = rw (take_more_set p.array p.count c.args.vertex (omega arith)) (rising_more (picks_of p) c.args.vertex n c.in_ok-answer.ensures p.ascending);
    }
