use Rattle.excuses.proofs.Steps.{step_laws}
use Rattle.excuses.proofs.Sweep.{sweep_laws}
use Rattle.std.proofs.Common.{rules}
use Rattle.excuses.proofs.quoted.Goals as goal

pub loop-m-init : goal.loop-m-init
loop-m-init c = search (step_laws, sweep_laws, rules)

pub loop-m-preserved-then-outlives : goal.loop-m-preserved-then-outlives
loop-m-preserved-then-outlives c = search (step_laws, sweep_laws, c.in-Some.ensures, rules)

pub loop-m-preserved : goal.loop-m-preserved
loop-m-preserved c = search (step_laws, sweep_laws, c.in-Some.ensures, rules)

pub returns : goal.returns
returns c = search (step_laws, sweep_laws, c.in_default.ensures, rules)
