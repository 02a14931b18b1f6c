use Rattle.sharing.proofs.Shares.{share_laws}
use Rattle.std.proofs.Common.{rules}
use Rattle.sharing.proofs.share_out.Goals as goal

pub returns-then-due-total : goal.returns-then-due-total
returns-then-due-total c = search (share_laws, rules)

pub returns : goal.returns
returns c = search (share_laws, rules)
