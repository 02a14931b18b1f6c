use Rattle.excuses.proofs.Steps.{step_laws}
use Rattle.std.proofs.Common.{rules}
use Rattle.excuses.proofs.keep_excuses.Goals as goal

pub returns-in_default : goal.returns-in_default
returns-in_default c = search (step_laws, rules)
