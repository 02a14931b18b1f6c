use Rattle.desk.proofs.Records.{writer_laws}
use Rattle.std.proofs.Common.{rules}
use Rattle.desk.proofs.hasurenta_write_header.Goals as goal

pub returns-then-numbers-ne-HEADER : goal.returns-then-numbers-ne-HEADER
returns-then-numbers-ne-HEADER c = search (writer_laws, rules)

pub returns : goal.returns
returns c = search (writer_laws, rules)
