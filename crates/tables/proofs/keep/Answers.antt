use Rattle.tables.proofs.Tables.{all_kept}
use Rattle.tables.proofs.keep.Goals as goal

pub returns : goal.returns
returns c =
    all_kept _ _ _ _ _ _ _ _ _ _ c.found_block-block.ensures c.keep_claim.ensures c.keep_trade.ensures c.keep_excuses.ensures c.keep_quote.ensures
    c.keep_status.ensures
