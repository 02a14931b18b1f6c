use Rattle.excuses.proofs.Look.{look_laws}
use Rattle.std.proofs.Common.{rules}
use mathlib.Core.Path.{sym}
use Rattle.excuses.proofs.excuser.Goals as goal

pub loop-m-init : goal.loop-m-init
loop-m-init c = search (look_laws, rules)

pub returns-then-still_excuses : goal.returns-then-still_excuses
returns-then-still_excuses c = search (look_laws, c.in-Some.ensures, sym c.in-Some.ensures.1, rules)

pub loop-m-preserved : goal.loop-m-preserved
loop-m-preserved c = search (look_laws, c.in-Some.ensures, rules)

pub returns : goal.returns
returns c = search (look_laws, c.in_default.ensures, rules)
