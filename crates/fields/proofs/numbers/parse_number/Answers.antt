use Rattle.std.proofs.Common.{None, rules}
use Rattle.fields.proofs.Decimals.{said}
use Rattle.fields.proofs.numbers.parse_number.Goals as goal

pub returns-then-is_shapely-clause-written : goal.returns-then-is_shapely-clause-written
returns-then-is_shapely-clause-written c = said c.args.field.now _ (search rules)

pub returns-else-is_shapely-clause-written : goal.returns-else-is_shapely-clause-written
returns-else-is_shapely-clause-written c = said c.args.field.now None (search rules)
