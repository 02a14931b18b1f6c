use Rattle.answers.proofs.Answers.{whole_printed}
use Rattle.std.proofs.Common.{rules}
use Rattle.answers.proofs.print_whole.Goals as goal

pub returns : goal.returns
returns c = search (whole_printed, rules)
