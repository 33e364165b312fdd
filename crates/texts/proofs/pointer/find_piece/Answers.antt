use Rattle.std.proofs.Common.{◌≡◌, ◌+◌, Some, None, sym, ap, ◌∙◌, arith}
use Rattle.std.specs.Option.{option_map}
use Rattle.std.proofs.lemmas.Iterator.Consumers.{nth_from_yields_List}
use Rattle.fields.specs.declared.pieces.Piece.{Piece}
use Rattle.fields.proofs.Splits.{hands_out_left}
use Rattle.texts.proofs.Places.{piece_there}
use Rattle.texts.proofs.pointer.find_piece.Goals as goal

pub returns-in_err-piece : goal.returns-in_err-piece
returns-in_err-piece c =
    let n = nth_from_yields_List _ _ _ c.nth.ensures.ran (hands_out_left c.new.result _ c.new.ensures.rest) in
    let k : c.args.place ≡ c.in_ok-checked_sub.field-0 + 1 = omega (arith, c.in_ok-checked_sub.ensures) in
    rw c.from_residual-in_err-piece.ensures
    (sym (piece_there c.args.separator c.args.place c.in_ok-checked_sub.field-0 c.args.text.now None k (sym (ap (option_map (λ (p : Piece). p.bytes.now)) c.in_err-piece.was) ∙ n)))

pub returns : goal.returns
returns c =
    let n = nth_from_yields_List _ _ _ c.nth.ensures.ran (hands_out_left c.new.result _ c.new.ensures.rest) in
    let k : c.args.place ≡ c.in_ok-checked_sub.field-0 + 1 = omega (arith, c.in_ok-checked_sub.ensures) in
    piece_there c.args.separator c.args.place c.in_ok-checked_sub.field-0 c.args.text.now (Some c.in_ok-piece.piece.bytes.now) k
    (sym (ap (option_map (λ (p : Piece). p.bytes.now)) c.in_ok-piece.was) ∙ n)
