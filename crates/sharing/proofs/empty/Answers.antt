use Rattle.sharing.specs.Turns.{emptied}
use Rattle.sharing.proofs.Shares.{made_more, made_all}
use Rattle.sharing.proofs.empty.Goals as goal

pub loop-portion-preserved : goal.loop-portion-preserved
loop-portion-preserved c = made_more emptied _ _ _ c.loop-portion.invariant c.loop-portion-test.true

pub returns : goal.returns
returns c = made_all emptied _ _ _ c.loop-portion.invariant c.loop-portion-test.false
