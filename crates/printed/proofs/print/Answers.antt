use Rattle.printed.proofs.Printing.{print_laws}
use Rattle.std.proofs.Common.{rules}
use Rattle.printed.proofs.print.Goals as goal

pub returns-then-out-first : goal.returns-then-out-first
returns-then-out-first c = search (print_laws, rules)

pub returns : goal.returns
returns c = search (print_laws, rules)
