use Rattle.text.proofs.Lent.{writes_laws}
use Rattle.std.proofs.Common.{rules}
use Rattle.text.proofs.write_refusal.Goals as goal

pub returns-then-out-refusal_width : goal.returns-then-out-refusal_width
returns-then-out-refusal_width c = search (writes_laws, rules)

pub returns : goal.returns
returns c = search (writes_laws, rules)
