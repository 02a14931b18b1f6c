use Rattle.desk.proofs.Records.{reader_laws}
use Rattle.std.proofs.Common.{rules}
use Rattle.desk.proofs.hasurenta_read_record.Goals as goal

pub returns-then-numbers-ne-READING : goal.returns-then-numbers-ne-READING
returns-then-numbers-ne-READING c = search (reader_laws, rules)

pub returns-in-Err : goal.returns-in-Err
returns-in-Err c = search (reader_laws, rules)

pub put_record-requires : goal.put_record-requires
put_record-requires c = search (reader_laws, rules)

pub returns-in-Ok : goal.returns-in-Ok
returns-in-Ok c = search (reader_laws, rules)
