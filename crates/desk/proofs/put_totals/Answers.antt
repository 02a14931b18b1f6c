use Rattle.desk.proofs.Exports.{four_laws}
use Rattle.std.proofs.Common.{rules}
use Rattle.desk.proofs.put_totals.Goals as goal

pub returns-then-out-lt-TOTALS : goal.returns-then-out-lt-TOTALS
returns-then-out-lt-TOTALS c = search (four_laws, rules)

pub returns : goal.returns
returns c = search (four_laws, rules)
