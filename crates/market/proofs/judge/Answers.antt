use Rattle.market.proofs.Judging.{judge_laws}
use Rattle.std.proofs.Common.{rules}
use Rattle.market.proofs.judge.Goals as goal

pub returns-then-not-is_home : goal.returns-then-not-is_home
returns-then-not-is_home c = search (judge_laws, rules)

pub returns-else-not-is_home : goal.returns-else-not-is_home
returns-else-not-is_home c = search (judge_laws, rules)

pub returns-in-4 : goal.returns-in-4
returns-in-4 c = search (judge_laws, rules)

pub returns-in-6 : goal.returns-in-6
returns-in-6 c = search (judge_laws, rules)

pub returns-in-3 : goal.returns-in-3
returns-in-3 c = search (judge_laws, rules)

pub returns-in_default : goal.returns-in_default
returns-in_default c = search (judge_laws, rules)
