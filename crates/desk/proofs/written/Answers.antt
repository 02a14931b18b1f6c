use Rattle.desk.proofs.Records.{code_written}
use Rattle.std.proofs.Common.{rules}
use Rattle.desk.proofs.written.Goals as goal

pub returns : goal.returns
returns c = search (code_written, rules)
