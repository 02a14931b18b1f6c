use Rattle.reasons.proofs.Table.{allowed_at_most}
use Rattle.explain.proofs.telling.say_time.Goals as goal

pub until-requires : goal.until-requires
until-requires g c = allowed_at_most _ _ _ _ c.allowed-allowed.ensures
