use Rattle.excuses.proofs.Steps.{step_laws}
use Rattle.std.proofs.Common.{rules}
use Rattle.excuses.proofs.keep_sent.Goals as goal

pub returns : goal.returns
returns c = search (step_laws, rules)
