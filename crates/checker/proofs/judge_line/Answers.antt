use Rattle.checker.proofs.Lines.{line_laws}
use Rattle.std.proofs.Common.{rules}
use Rattle.checker.proofs.judge_line.Goals as goal

pub returns-then-from : goal.returns-then-from
returns-then-from c = search (line_laws, rules)

pub returns-then-said-reason : goal.returns-then-said-reason
returns-then-said-reason c = search (line_laws, rules)

pub returns-then-claim-said : goal.returns-then-claim-said
returns-then-claim-said c = search (line_laws, rules)

pub returns : goal.returns
returns c = search (line_laws, rules)
