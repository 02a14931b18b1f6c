use Rattle.claims.proofs.Lines.{line_laws}
use Rattle.claims.proofs.Cancelling.{cancel_laws}
use Rattle.claims.proofs.Withdrawing.{withdraw_laws}
use Rattle.std.proofs.Common.{rules}
use Rattle.claims.proofs.keep_claim.Goals as goal

pub returns-in-8 : goal.returns-in-8
returns-in-8 c = search (line_laws, cancel_laws, withdraw_laws, rules)

pub returns-in-11 : goal.returns-in-11
returns-in-11 c = search (line_laws, cancel_laws, withdraw_laws, rules)

pub returns-in_default : goal.returns-in_default
returns-in_default c = search (line_laws, cancel_laws, withdraw_laws, rules)
