use Rattle.desk.proofs.Records.{writer_laws}
use Rattle.std.proofs.Common.{rules}
use Rattle.desk.proofs.hasurenta_write_record.Goals as goal

pub returns-then-numbers-lt-RECORD_LEAST : goal.returns-then-numbers-lt-RECORD_LEAST
returns-then-numbers-lt-RECORD_LEAST c = search (writer_laws, c.then-numbers-lt-RECORD_LEAST.either, rules)

pub returns : goal.returns
returns c = search (writer_laws, rules)
