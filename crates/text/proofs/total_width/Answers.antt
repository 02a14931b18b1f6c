use Rattle.text.proofs.Decimal.{width_laws}
use Rattle.std.proofs.Common.{rules}
use Rattle.text.proofs.total_width.Goals as goal

pub returns : goal.returns
returns c = search (width_laws, rules)
