use Rattle.fairness.proofs.Rule.{rule_laws}
use Rattle.std.proofs.Common.{rules}
use Rattle.fairness.proofs.keeps_rule.Goals as goal

pub loop-j-preserved : goal.loop-j-preserved
loop-j-preserved c = search (rule_laws, rules)

pub returns-after-lines : goal.returns-after-lines
returns-after-lines c = search (rule_laws, rules)

pub returns-then-breaks : goal.returns-then-breaks
returns-then-breaks c = search (rule_laws, rules)
