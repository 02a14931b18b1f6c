use Rattle.market.proofs.Judging.{judge_laws}
use Rattle.std.proofs.Common.{rules}
use Rattle.market.proofs.duty_says.Goals as goal

pub returns-in-NoDuty : goal.returns-in-NoDuty
returns-in-NoDuty c = search (judge_laws, rules)
