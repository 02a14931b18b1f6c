-- What the survey of an accepted journal gives: its lines are filed, and few, and so are its trades and the rows of its list.
use Rattle.std.proofs.Common.{refl}
use Rattle.answers.proofs.Answers.{tables_known, rows_known, full_list}
use Rattle.explain.proofs.explain.Goals as goal

pub read_lines-reach-requires : goal.read_lines-reach-requires
read_lines-reach-requires g c = ((rows_known _ _ _ _ _ _ _ c.survey.ensures c.in-Ok.whole c.in-Ok.is full_list).2, refl)

pub invariant_of-day : goal.invariant_of-day
invariant_of-day g c =
    let known = tables_known _ _ _ _ _ _ _ c.survey.ensures c.in-Ok.whole c.in-Ok.is in
    record { filed = known.1; few = known.0 }

pub tell-requires-2 : goal.tell-requires-2
tell-requires-2 g c = (rows_known _ _ _ _ _ _ _ c.survey.ensures c.in-Ok.whole c.in-Ok.is full_list).0
