use Rattle.text.proofs.Decimal.{hundreds_laws}
use Rattle.std.proofs.Common.{rules}
use Rattle.text.proofs.+put_digits.Goals as goal

pub put_digits-p-requires : goal.put_digits-p-requires
put_digits-p-requires t c = search (hundreds_laws, rules)

pub put_pair-requires : goal.put_pair-requires
put_pair-requires t c = search (hundreds_laws, rules)

pub returns : goal.returns
returns t c = search (hundreds_laws, rules)
