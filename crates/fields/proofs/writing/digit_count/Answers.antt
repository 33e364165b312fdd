use Rattle.std.proofs.Common.{rules, arith}
use Rattle.fields.proofs.Decimals.{numeral_by_log}
use Rattle.fields.proofs.writing.digit_count.Goals as goal

pub returns-clause-count : goal.returns-clause-count
returns-clause-count c =
    let e = c.checked_ilog10.ensures in
    let h = numeral_by_log c.args.number c.checked_ilog10.result (omega arith) e.none e.power_le e.next_power_gt in
    search rules
