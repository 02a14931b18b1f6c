use Rattle.sharing.specs.Turns.{full}
use Rattle.sharing.proofs.Shares.{made_more, made_all}
use Rattle.sharing.proofs.fill.Goals as goal

pub loop-portion-preserved : goal.loop-portion-preserved
loop-portion-preserved c = made_more full _ _ _ c.loop-portion.invariant c.loop-portion-test.true

pub returns : goal.returns
returns c = made_all full _ _ _ c.loop-portion.invariant c.loop-portion-test.false
