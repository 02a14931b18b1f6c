use Rattle.std.proofs.Common.{rules, arith}
use Rattle.std.proofs.lemmas.Iterator.{YieldsList-from_range}
use Rattle.std.proofs.lemmas.Iterator.Consumers.{count_from_yields_List, YieldsList-from_filter}
use Rattle.through.specs.Trades.{through_in}
use Rattle.through.proofs.TradeVerdicts.{count_found}
use Rattle.through.proofs.count_through.Goals as goal

pub returns : goal.returns
returns c =
    count_found _ _ _ _ c.requires.0 c.requires.1 _
    (count_from_yields_List c.filter.result _ c.count.ensures.ran
    (YieldsList-from_filter _ (through_in c.args.quotes.now c.args.home c.args.trade) (YieldsList-from_range 0 c.args.exchanges c.args.exchanges c.filter.ensures.source (omega arith)) c.filter.ensures.closure
    (λ x r q k. search rules)))
