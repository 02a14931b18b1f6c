use Rattle.desk.proofs.Records.{put_laws}
use Rattle.std.proofs.Common.{rules}
use Rattle.desk.proofs.put_record.Goals as goal

pub returns-then-out-count : goal.returns-then-out-count
returns-then-out-count c = search (put_laws, rules)

pub returns : goal.returns
returns c = search (put_laws, rules)
