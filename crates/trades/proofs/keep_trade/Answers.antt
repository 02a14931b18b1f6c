use Rattle.trades.proofs.TradeLaws.{trade_laws, trade_taken, bit_from}
use Rattle.std.proofs.Common.{rules}
use Rattle.trades.proofs.keep_trade.Goals as goal

pub returns-then-r-ne-TRADE : goal.returns-then-r-ne-TRADE
returns-then-r-ne-TRADE c = search (trade_laws, rules)

pub returns : goal.returns
returns c =
    trade_taken _ _ _ _ _ _ _ _ _ _ _ _ _ c.requires.headed c.requires.fits_trades c.if-r-ne-TRADE.false _ _
    c.keep_snaps.ensures _ c.is_capped.ensures _ _ _ (bit_from _ _ c.from-found.ensures) (bit_from _ _ c.from-capped.ensures) (bit_from _ _ c.from-begun.ensures)
    c.put_row.ensures
