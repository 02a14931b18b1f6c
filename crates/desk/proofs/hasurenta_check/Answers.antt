use Rattle.desk.proofs.Exports.{check_laws}
use Rattle.std.proofs.Common.{rules}
use Rattle.desk.proofs.hasurenta_check.Goals as goal

pub returns-in-Ok : goal.returns-in-Ok
returns-in-Ok c = search (check_laws, rules)

pub returns-in-Err : goal.returns-in-Err
returns-in-Err c = search (check_laws, rules)
