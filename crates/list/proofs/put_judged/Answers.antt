use Rattle.list.proofs.Noting.{judged_laws}
use Rattle.std.proofs.Common.{rules}
use Rattle.list.proofs.put_judged.Goals as goal

pub returns-in-Nothing : goal.returns-in-Nothing
returns-in-Nothing c = search (judged_laws, rules)

pub returns-in-Q : goal.returns-in-Q
returns-in-Q c = search (judged_laws, rules)

pub returns-in-S : goal.returns-in-S
returns-in-S c = search (judged_laws, rules)

pub returns-in-R : goal.returns-in-R
returns-in-R c = search (judged_laws, rules)

pub returns-in-T : goal.returns-in-T
returns-in-T c = search (judged_laws, rules)
