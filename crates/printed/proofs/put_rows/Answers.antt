use Rattle.printed.proofs.Printing.{rows_laws}
use Rattle.std.proofs.Common.{rules}
use Rattle.printed.proofs.put_rows.Goals as goal

pub loop-i-init : goal.loop-i-init
loop-i-init c = search (rows_laws, rules)

pub put_line-next-requires : goal.put_line-next-requires
put_line-next-requires c = search (rows_laws, rules)

pub loop-i-preserved : goal.loop-i-preserved
loop-i-preserved c = search (rows_laws, rules)
