use Rattle.text.proofs.Lent.{copy_laws}
use Rattle.std.proofs.Common.{rules}
use Rattle.text.proofs.put_text.Goals as goal

pub loop-i-init : goal.loop-i-init
loop-i-init c = search (copy_laws, rules)

pub loop-i-preserved : goal.loop-i-preserved
loop-i-preserved c = search (copy_laws, rules)

pub returns : goal.returns
returns c = search (copy_laws, rules)
