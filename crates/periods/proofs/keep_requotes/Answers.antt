use Rattle.periods.proofs.Keeping.{mark_laws}
use Rattle.std.proofs.Common.{rules}
use Rattle.periods.proofs.keep_requotes.Goals as goal

pub returns : goal.returns
returns c = search (mark_laws, rules)
