use Rattle.sheet.proofs.Written.{put_laws}
use Rattle.std.proofs.Common.{rules}
use Rattle.sheet.proofs.put_number.Goals as goal

pub returns : goal.returns
returns c = search (put_laws, rules)
