use Rattle.desk.proofs.Exports.{writer_gives}
use Rattle.std.proofs.Common.{rules}
use Rattle.desk.proofs.hasurenta_rewrite.Goals as goal

pub returns : goal.returns
returns c = search (writer_gives, rules)
