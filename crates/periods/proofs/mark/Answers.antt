use Rattle.periods.proofs.Keeping.{mark_laws}
use Rattle.std.proofs.Common.{rules}
use Rattle.periods.proofs.mark.Goals as goal

pub returns-then-shown_by-periods : goal.returns-then-shown_by-periods
returns-then-shown_by-periods c = search (mark_laws, rules)
